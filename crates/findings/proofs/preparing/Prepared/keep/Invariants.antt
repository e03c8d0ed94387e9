use Rattle.std.proofs.Common.{take}
use Rattle.findings.specs.Prepared.{Prepares}
use Rattle.findings.proofs.preparing.Prepared.keep.Given as goal

-- so far the first rows are kept
abbrev pub invariant-loop-place : goal.invariant-loop-place
invariant-loop-place g l = Prepares (g.B.Bound.meaning l.bound) l.frame.ticks (take l.place l.rows) l.self
