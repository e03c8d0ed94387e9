use Rattle.std.proofs.Common.{◌≡◌, take}
use Rattle.bounds.specs.Families.{supplied_plain}
use Rattle.filings.specs.Filings.{filed}
use Rattle.filings.proofs.counting.count_by.Given as goal

-- so far the rows of the places seen are counted
abbrev pub invariant-loop-i : goal.invariant-loop-i
invariant-loop-i g l = l.filing ≡ filed l.fn.table.frame (supplied_plain l.fn.bound) (take l.i l.fn.table.rows)
