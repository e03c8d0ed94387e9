use Rattle.writing.proofs.Turns.{reads_on}
use Rattle.writing.proofs.taking_findings.FindingsLeaf.finding.Goals as goal

pub returns-clause-read : goal.returns-clause-read
returns-clause-read c = reads_on c.put_finding.ensures
