use Rattle.std.proofs.Common.{◌≡◌, map, take}
use Rattle.filings.specs.Filings.{filed}
use Rattle.views.proofs.counted.count_each.Given as goal

-- the table is counted by the bounds seen
abbrev pub invariant-loop-bound : goal.invariant-loop-bound
invariant-loop-bound g l = l.counts.items ≡ map (λ b. filed l.table.frame b l.table.rows) (take l.bound-index l.bounds)
