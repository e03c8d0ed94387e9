use Rattle.std.proofs.Common.{◌≡◌, ◌≤◌, [], ◌∷◌, length, sym, ap, ap₂, ◌∙◌, subst, arith}
use Rattle.std.proofs.lemmas.Result.{err_from_is_err_and}
use Rattle.rows.specs.Answers.{gives}
use Rattle.rows.specs.Books.{IsJudged, book}
use Rattle.rows.proofs.Checks.{given_is, refused_first}
use Rattle.bounds.specs.Families.{family_accuracy_checks, supplied_plain}
use Rattle.reading.specs.Phases.{place_of}
use Rattle.filings.specs.Checks.{filing_checks, given_frame_checks, frame_for}
use Rattle.filings.specs.Filings.{heading_numbers}
use Rattle.filings.specs.Sheets.{room_checks, sheet_length}
use Rattle.filings.proofs.Order.{table_given, table_refused}
use Rattle.filings.proofs.Written.{as_many, opened_by, sheet_told, sheet_written, sheeted}
use Rattle.filings.proofs.sheet_writing.write_sheet.Goals as goal

pub returns-in_err-judged-clause-answered : goal.returns-in_err-judged-clause-answered
returns-in_err-judged-clause-answered c =
    let numbers = c.args.table.now in
    let p = err_from_is_err_and c.from_residual-in_err-judged.result c.from_residual-in_err-judged.ensures.1 in
    let fault = c.in_err-judged.field-0.0 in
    let refused =
    table_refused c.args.frame
    ((c.args.family, c.args.accuracy) ∷ []) numbers c.in_ok-frame.frame c.in_ok-frame.ensures _ _ c.in_ok-bound.ensures
    fault.refusal fault.at _ c.in_err-judged.ensures.answered (sheet_length numbers) in
    rw (p.1, p.2)
    (refused_first (filing_checks c.args.frame ((c.args.family, c.args.accuracy) ∷ []) numbers)
    (room_checks numbers (length c.args.buffer.now)) fault.refusal fault.at (sheet_length numbers) refused
    (sheet_length numbers))

pub put_rows-requires-clause-room : goal.put_rows-requires-clause-room
put_rows-requires-clause-room c =
    let numbers = c.args.table.now in
    let begun = c.in_ok-leaf.ensures.filed.0 in
    omega (
      arith,
      as_many c.in_ok-judged.judged _ numbers c.in_ok-judged.ensures.made c.in_ok-judged.ensures.rows,
      ap place_of (opened_by begun.step),
      c.begin.auto.buffer,
      c.if-buffer-table.false,
    )

pub returns-clause-answered : goal.returns-clause-answered
returns-clause-answered c =
    let numbers = c.args.table.now in
    let sheet = sheeted _ c.in_ok-judged.judged.rows c.in_ok-leaf.ensures.filed.0 c.put_rows.ensures in
    let place : c.place.result ≡ sheet_length numbers =
    omega (
      arith,
      c.place.ensures,
      ap place_of c.phase.ensures.answered,
      sheet.place,
      as_many c.in_ok-judged.judged _ numbers c.in_ok-judged.ensures.made c.in_ok-judged.ensures.rows,
    ) in
    let room : sheet_length numbers ≤ length c.args.buffer.now = omega (arith, c.if-buffer-table.false) in
    let given = table_given c.args.frame
    ((c.args.family, c.args.accuracy) ∷ []) numbers c.in_ok-frame.frame c.in_ok-frame.ensures _ _
    c.in_ok-bound.ensures _ _ c.in_ok-judged.ensures.answered (sheet_length numbers) in
    ap gives place
    ∙ sheet_told c.args.frame (c.args.family, c.args.accuracy) numbers (length c.args.buffer.now)
    (sheet_length numbers) given room

pub returns-clause-written : goal.returns-clause-written
returns-clause-written c =
    let numbers = c.args.table.now in
    let given : c.in_ok-frame.frame ≡ c.args.frame =
    given_is (given_frame_checks c.args.frame) _ _ c.in_ok-frame.ensures in
    let frame : c.numbers-frame.result ≡ frame_for c.args.frame numbers =
    c.numbers-frame.ensures.answered ∙ c.frame.ensures.answered ∙ ap (λ t. t.frame) c.in_ok-judged.ensures.made
    ∙ ap (λ f. frame_for f numbers) given in
    let bound : supplied_plain c.in_ok-bound.bound ≡ (c.args.family, c.args.accuracy) =
    given_is (family_accuracy_checks c.args.family c.args.accuracy) _ _ c.in_ok-bound.ensures in
    sheet_written _ c.in_ok-judged.judged.rows numbers
    (heading_numbers (frame_for c.args.frame numbers) (c.args.family, c.args.accuracy)) c.place.result
    c.in_ok-leaf.ensures.filed.0 c.put_rows.ensures
    (c.place.ensures ∙ ap place_of c.phase.ensures.answered) (ap₂ heading_numbers frame bound)
    (subst (λ k. IsJudged (book k c.in_ok-judged.judged.rows))
    (sym (c.numbers-frame.ensures.answered ∙ c.frame.ensures.answered)) c.frame.ensures.judged)
    (ap (λ t. t.rows) c.in_ok-judged.ensures.made) c.in_ok-judged.ensures.rows
