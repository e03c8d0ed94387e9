use Rattle.std.proofs.Common.{◌≡◌, ap₂, ◌∙◌, subst, arith, true}
use Rattle.std.proofs.lemmas.List.Elements.{All-get_or}
use Rattle.rows.specs.Counting.{is_on_frame}
use Rattle.leaves.specs.declared.entries.Entry.TheVariants.{Row as row}
use Rattle.reading.specs.Phases.{frame_in}
use Rattle.writing.specs.Filing.{Files, none}
use Rattle.writing.proofs.Filed.{rows_before, one_more_filed}
use Rattle.writing.proofs.whole.put_rows.Goals as goal

pub loop-row-init : goal.loop-row-init
loop-row-init c = none

pub put_row-requires-clause-few : goal.put_row-requires-clause-few
put_row-requires-clause-few c =
    let so_far = rows_before c.loop-row.row-index c.args.rows.now
    (omega (arith, c.loop-row-test.true)) c.loop-row.invariant in
    omega (arith, so_far.rows, c.requires.empty, c.requires.few, c.loop-row-test.true)

pub put_row-requires-clause-on : goal.put_row-requires-clause-on
put_row-requires-clause-on c =
    let so_far = rows_before c.loop-row.row-index c.args.rows.now
    (omega (arith, c.loop-row-test.true)) c.loop-row.invariant in
    ap₂ (λ h. is_on_frame h.ticks) so_far.frame c.row-item.is
    ∙ All-get_or (λ r. is_on_frame (frame_in c.args.leaf).ticks r ≡ true) c.args.rows.now c.loop-row.row-index
    c.row-item.result c.loop-row-test.true c.requires.on

pub put_row-requires-clause-room : goal.put_row-requires-clause-room
put_row-requires-clause-room c =
    let so_far = rows_before c.loop-row.row-index c.args.rows.now
    (omega (arith, c.loop-row-test.true)) c.loop-row.invariant in
    omega (arith, so_far.place, so_far.size, c.requires.room, c.loop-row-test.true)

pub loop-row-preserved : goal.loop-row-preserved
loop-row-preserved c =
    one_more_filed row c.args.rows.now c.loop-row.row-index c.row-item.result c.loop-row-test.true c.loop-row.invariant
    (subst (λ r. Files c.loop-row.leaf c.loop-row.buffer (row r) c.put_row.new.self c.put_row.new.buffer) c.row-item.is
    c.put_row.ensures)
