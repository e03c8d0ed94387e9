use Rattle.std.proofs.Common.{length}
use Rattle.reading.specs.Readers.{reading_of}
use Rattle.answers.proofs.leaf_answers.entry_by_entry.Given as goal

abbrev pub decreases-loop-next : goal.decreases-loop-next
decreases-loop-next l = length (reading_of l.reader).left
