use Rattle.std.proofs.Common.{◌≡◌, ◌-◌, ◌*◌, ◌/◌, ◌^◌, min, take}
use Rattle.std.specs.Prelude.{sum_by}
use Rattle.views.proofs.utilisation.Utilisation.of.Given as goal

-- the rows seen are summed
abbrev pub invariant-loop-row : goal.invariant-loop-row
invariant-loop-row l =
    l.parts ≡ min (2 ^ 64 - 1) (sum_by (λ row. row.work * (l.frame / row.period)) (take l.row-index l.rows))
