use Rattle.std.proofs.Common.{◌≡◌, arith, subst}
use Rattle.rows.specs.Answers.{checked, gives}
use Rattle.rows.specs.Judging.{flaw_checks, frame_flaws, plain}
use Rattle.leaves.specs.Entries.{row_size}
use Rattle.reading.proofs.Taking.{row_taken}
use Rattle.reading.proofs.entries.row_entry.Goals as goal

pub returns-clause-taken : goal.returns-clause-taken
returns-clause-taken c =
    let n = c.row_fields.result in
    let row = c.in_ok-row.row in
    let judged = subst
    (λ h. gives (plain row) ≡ checked (flaw_checks (frame_flaws h) n c.args.at) n) c.frame.ensures
    c.in_ok-row.ensures in
    row_taken c.args.body.now row_size c.args.heading row n c.args.rows c.args.at
    (omega arith) c.row_fields.ensures.same judged
