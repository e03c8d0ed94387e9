use Rattle.std.proofs.Common.{length, map, sym, refl, ap, ◌∙◌, subst, arith}
use Rattle.std.specs.List.{AllPass}
use Rattle.rows.specs.Counting.{is_on_frame}
use Rattle.rows.specs.Lists.{written}
use Rattle.leaves.specs.declared.entries.Entry.TheVariants.{Finding as finding}
use Rattle.leaves.specs.Contents.{contents}
use Rattle.reading.specs.Phases.{place_of, rows_in, frame_in}
use Rattle.writing.specs.Filing.{FilesAll}
use Rattle.writing.specs.Whole.{IsFiled}
use Rattle.writing.proofs.Filed.{rows_filed, findings_filed}
use Rattle.writing.proofs.Leaves.{passed, never_refused, gives_length, finished, counted_rows, counted_findings}
use Rattle.writing.proofs.Turns.{followed, filed_length, whole_in_turn}
use Rattle.writing.proofs.whole.file.Goals as goal

pub returns-in_err-check_whole-clause-turn : goal.returns-in_err-check_whole-clause-turn
returns-in_err-check_whole-clause-turn c = whole_in_turn

pub returns-in_err-check_whole-clause-followed : goal.returns-in_err-check_whole-clause-followed
returns-in_err-check_whole-clause-followed c = followed

pub returns-clause-turn : goal.returns-clause-turn
returns-clause-turn c = whole_in_turn

pub returns-clause-followed : goal.returns-clause-followed
returns-clause-followed c = followed

pub returns-in_err-check_whole-clause-always : goal.returns-in_err-check_whole-clause-always
returns-in_err-check_whole-clause-always g lawful room =
    absurd (never_refused (contents g.args.heading g.args.rows.now g.args.findings.now)
    (length g.args.buffer.now) tt lawful room _ _ g.in_err-check_whole.ensures)

pub returns-in_err-check_whole-clause-again : goal.returns-in_err-check_whole-clause-again
returns-in_err-check_whole-clause-again g bytes fits room =
    absurd (never_refused (contents g.args.heading g.args.rows.now g.args.findings.now)
    (length g.args.buffer.now) tt fits.0 (omega (arith, room, ap length fits.1)) _ _ g.in_err-check_whole.ensures)

pub put_rows-leaf-requires-clause-on : goal.put_rows-leaf-requires-clause-on
put_rows-leaf-requires-clause-on c =
    let on = (passed c.args.heading.frame c.args.rows.now c.args.findings.now
    (length c.args.buffer.now) c.in_ok-check_whole.ensures).on in
    subst (λ h. AllPass (is_on_frame h.ticks) c.args.rows.now) (sym (ap frame_in c.opened.ensures.answered)) on

pub put_findings-leaf-requires-clause-even : goal.put_findings-leaf-requires-clause-even
put_findings-leaf-requires-clause-even c =
    let even = (passed c.args.heading.frame c.args.rows.now c.args.findings.now
    (length c.args.buffer.now) c.in_ok-check_whole.ensures).even in
    let rows = (rows_filed c.args.rows.now c.put_rows-leaf.ensures).rows in
    omega (arith, even, rows, ap rows_in c.turn.ensures, ap rows_in c.opened.ensures.answered)

pub put_findings-leaf-requires-clause-good : goal.put_findings-leaf-requires-clause-good
put_findings-leaf-requires-clause-good c =
    (passed c.args.heading.frame c.args.rows.now c.args.findings.now
    (length c.args.buffer.now) c.in_ok-check_whole.ensures).good

pub put_findings-leaf-requires-clause-room : goal.put_findings-leaf-requires-clause-room
put_findings-leaf-requires-clause-room c =
    let checks = passed c.args.heading.frame c.args.rows.now c.args.findings.now
    (length c.args.buffer.now) c.in_ok-check_whole.ensures in
    let rows = rows_filed c.args.rows.now c.put_rows-leaf.ensures in
    omega (
      arith,
      checks.room,
      checks.even,
      rows.place,
      rows.size,
      filed_length c.opened.ensures.filed,
      ap place_of c.turn.ensures,
      ap place_of c.opened.ensures.answered,
    )

pub put_end-leaf-requires-clause-even : goal.put_end-leaf-requires-clause-even
put_end-leaf-requires-clause-even c =
    let even = (passed c.args.heading.frame c.args.rows.now c.args.findings.now
    (length c.args.buffer.now) c.in_ok-check_whole.ensures).even in
    let filed = (subst
    (λ q. FilesAll q c.put_rows-leaf.new.buffer
    (map finding c.args.findings.now) c.put_findings-leaf.result c.put_findings-leaf.new.buffer) c.turn.ensures
    c.put_findings-leaf.ensures) in
    omega (
      arith,
      even,
      counted_rows c.args.rows.now c.args.findings.now c.opened.ensures.answered c.put_rows-leaf.ensures filed,
      counted_findings c.args.rows.now c.args.findings.now c.opened.ensures.answered c.put_rows-leaf.ensures filed,
    )

pub put_end-leaf-requires-clause-room : goal.put_end-leaf-requires-clause-room
put_end-leaf-requires-clause-room c =
    let checks = passed c.args.heading.frame c.args.rows.now c.args.findings.now
    (length c.args.buffer.now) c.in_ok-check_whole.ensures in
    let rows = rows_filed c.args.rows.now c.put_rows-leaf.ensures in
    let findings = findings_filed c.args.findings.now c.put_findings-leaf.ensures in
    omega (
      arith,
      checks.room,
      checks.even,
      rows.place,
      rows.size,
      findings.place,
      findings.size,
      filed_length c.opened.ensures.filed,
      ap place_of c.turn.ensures,
      ap place_of c.opened.ensures.answered,
    )

pub returns-clause-answered : goal.returns-clause-answered
returns-clause-answered c =
    let leaf = finished c.args.rows.now c.args.findings.now c.opened.ensures.answered c.put_rows-leaf.ensures
    (subst (λ q. FilesAll q c.put_rows-leaf.new.buffer
    (map finding c.args.findings.now) c.put_findings-leaf.result c.put_findings-leaf.new.buffer) c.turn.ensures
    c.put_findings-leaf.ensures) c.opened.ensures.filed c.put_end-leaf.ensures in
    gives_length c.args.heading.frame c.args.rows.now c.args.findings.now
    (length c.args.buffer.now) c.place.result c.in_ok-check_whole.ensures
    (c.place.ensures ∙ ap place_of c.phase.ensures.answered ∙ leaf.place)

pub returns-clause-filed : goal.returns-clause-filed
returns-clause-filed c =
    let leaf = finished c.args.rows.now c.args.findings.now c.opened.ensures.answered c.put_rows-leaf.ensures
    (subst (λ q. FilesAll q c.put_rows-leaf.new.buffer
    (map finding c.args.findings.now) c.put_findings-leaf.result c.put_findings-leaf.new.buffer) c.turn.ensures
    c.put_findings-leaf.ensures) c.opened.ensures.filed c.put_end-leaf.ensures in
    subst (λ n. IsFiled
    (contents c.args.heading c.args.rows.now c.args.findings.now) c.args.buffer.now c.put_end-leaf.new.buffer n)
    (sym (c.place.ensures ∙ ap place_of c.phase.ensures.answered)) leaf.filed

pub returns-clause-again : goal.returns-clause-again
returns-clause-again g bytes fits room =
    let leaf = finished g.args.rows.now g.args.findings.now g.opened.ensures.answered g.put_rows-leaf.ensures
    (subst (λ q. FilesAll q g.put_rows-leaf.new.buffer
    (map finding g.args.findings.now) g.put_findings-leaf.result g.put_findings-leaf.new.buffer) g.turn.ensures
    g.put_findings-leaf.ensures) g.opened.ensures.filed g.put_end-leaf.ensures in
    (refl, leaf.filed.bytes ∙ ap (written g.args.buffer.now 0) (sym fits.1))
