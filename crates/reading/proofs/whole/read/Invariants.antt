use Rattle.std.proofs.Common.{length}
use Rattle.reading.specs.Readers.{reading_of}
use Rattle.reading.proofs.Walks.{HasRead}
use Rattle.reading.proofs.whole.read.Given as goal

-- a run of entries leads to where the reader is
abbrev pub invariant-loop : goal.invariant-loop
invariant-loop l = HasRead l.bytes (reading_of l.reader)

abbrev pub decreases-loop : goal.decreases-loop
decreases-loop l = length (reading_of l.reader).left
