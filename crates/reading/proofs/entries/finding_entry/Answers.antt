use Rattle.leaves.specs.Entries.{finding_size}
use Rattle.reading.proofs.Taking.{finding_taken}
use Rattle.reading.proofs.entries.finding_entry.Goals as goal

pub returns-clause-taken : goal.returns-clause-taken
returns-clause-taken c =
    let f = c.finding_fields-finding in
    finding_taken c.args.body.now finding_size c.args.heading f.result c.args.rows c.args.findings c.args.at
    c.if-findings-rows.false f.ensures.fits f.ensures.same c.in_ok-judge_finding.ensures
