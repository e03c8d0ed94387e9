use Rattle.writing.proofs.Turns.{reads_on}
use Rattle.writing.proofs.taking_findings.FindingsLeaf.close.Goals as goal

pub returns-in-Ok-clause-read : goal.returns-in-Ok-clause-read
returns-in-Ok-clause-read c = reads_on c.put_end.ensures
