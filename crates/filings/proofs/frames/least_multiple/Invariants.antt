use Rattle.std.proofs.Common.{take}
use Rattle.filings.specs.Frames.{IsLeastMultiple}
use Rattle.filings.proofs.frames.least_multiple.Given as goal

-- so far the least common multiple of the periods seen
abbrev pub invariant-loop-numbers : goal.invariant-loop-numbers
invariant-loop-numbers l = IsLeastMultiple (take l.numbers-index l.table) l.frame
