use Rattle.trials.specs.Trials.{HoldAbove}
use Rattle.trials.proofs.trying.first_breach.Given as goal

-- no law fails of a row tried so far
abbrev pub invariant-loop-row : goal.invariant-loop-row
invariant-loop-row g l = HoldAbove (g.B.Bound.meaning l.bound) l.rows l.row-index
