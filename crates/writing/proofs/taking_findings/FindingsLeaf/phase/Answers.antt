use Rattle.std.proofs.Common.{subst}
use Rattle.writing.specs.States.{IsInFindings}
use Rattle.writing.proofs.Entries.{is_in_findings}
use Rattle.writing.proofs.taking_findings.FindingsLeaf.phase.Goals as goal

pub returns-in-0-clause-findings : goal.returns-in-0-clause-findings
returns-in-0-clause-findings c =
    subst IsInFindings c.self.view_is
    (is_in_findings c.self.inside.heading c.self.inside.rows c.self.inside.findings c.self.invariant.0
    c.self.invariant.1)

pub returns-in_default-clause-findings : goal.returns-in_default-clause-findings
returns-in_default-clause-findings c =
    subst IsInFindings c.self.view_is
    (is_in_findings c.self.inside.heading c.self.inside.rows c.self.inside.findings c.self.invariant.0
    c.self.invariant.1)
