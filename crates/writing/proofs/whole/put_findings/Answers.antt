use Rattle.std.proofs.Common.{arith}
use Rattle.rows.specs.declared.verdicts.Verdict.TheVariants.{Meets}
use Rattle.leaves.specs.declared.entries.Entry.TheVariants.{Finding as finding}
use Rattle.writing.specs.Filing.{none}
use Rattle.writing.proofs.Filed.{findings_before, one_more_filed}
use Rattle.writing.proofs.whole.put_findings.Goals as goal

pub loop-finding-init : goal.loop-finding-init
loop-finding-init c = none

pub put_finding-requires-clause-fewer : goal.put_finding-requires-clause-fewer
put_finding-requires-clause-fewer c =
    let so_far = findings_before c.loop-finding.finding-index c.args.findings.now
    (omega (arith, c.loop-finding-test.true)) c.loop-finding.invariant in
    omega (arith, so_far.rows, so_far.findings, c.requires.empty, c.requires.even, c.loop-finding-test.true)

pub put_finding-requires-clause-room : goal.put_finding-requires-clause-room
put_finding-requires-clause-room c =
    let so_far = findings_before c.loop-finding.finding-index c.args.findings.now
    (omega (arith, c.loop-finding-test.true)) c.loop-finding.invariant in
    omega (arith, so_far.place, so_far.size, c.requires.room, c.loop-finding-test.true)

pub loop-finding-preserved : goal.loop-finding-preserved
loop-finding-preserved c =
    one_more_filed finding c.args.findings.now c.loop-finding.finding-index
    (record { verdict = Meets 0; points = 0 }) c.loop-finding-test.true c.loop-finding.invariant
    c.put_finding.ensures
