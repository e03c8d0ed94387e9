use Rattle.std.proofs.Common.{take}
use Rattle.rows.specs.Answers.{Passes}
use Rattle.filings.specs.Checks.{bound_checks}
use Rattle.filings.proofs.judging.check_bounds.Given as goal

-- the bounds seen so far pass
abbrev pub invariant-loop-bound : goal.invariant-loop-bound
invariant-loop-bound l = Passes (bound_checks (take l.bound-index l.bounds))
