use Rattle.trials.specs.Trials.{HoldBefore}
use Rattle.trials.proofs.trying.breach_on.Given as goal

-- no law fails at an instant tried so far
abbrev pub invariant-loop-at : goal.invariant-loop-at
invariant-loop-at g l = HoldBefore (g.B.Bound.meaning l.bound) l.frame l.row l.at
