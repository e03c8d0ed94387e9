use Rattle.std.proofs.Common.{◌≡◌, ◌<◌, true, [], ◌∷◌, ◌++◌, length, sym, ap, ◌∙◌, subst}
use Rattle.rows.specs.Counting.{is_on_frame}
use Rattle.rows.specs.Times.{most_rows}
use Rattle.std.proofs.lemmas.Result.{err_from_is_err_and}
use Rattle.reading.specs.Readers.{reading_of}
use Rattle.rows.specs.Answers.{gives}
use Rattle.sheets.specs.Reading.{FitsSheet}
use Rattle.sheets.specs.Tables.{on_sheet}
use Rattle.sheets.proofs.Once.{fits_once}
use Rattle.sheets.proofs.Walks.{HasRead, read_heading, next_row, read_row, read_all, read_refused, sheet_is}
use Rattle.sheets.proofs.reading_sheets.read.Goals as goal
use Rattle.sheets.proofs.reading_sheets.read.Goals.{In-Some}

pub returns-in_err-heading-clause-once : goal.returns-in_err-heading-clause-once
returns-in_err-heading-clause-once c = fits_once

pub returns-in_err-row-clause-once : goal.returns-in_err-row-clause-once
returns-in_err-row-clause-once c = fits_once

pub returns-clause-once : goal.returns-clause-once
returns-clause-once c = fits_once

pub loop-row-init : goal.loop-row-init
loop-row-init c =
    let h = c.in_ok-heading.heading in
    let read = read_heading c.args.bytes.now h (reading_of c.new-reader.result)
    (reading_of c.next_heading.new.reader) c.new-reader.ensures c.in_ok-heading.ensures.taken in
    record {
      read =
          subst (λ t. HasRead c.args.bytes.now (on_sheet h t.rows) (reading_of c.next_heading.new.reader))
          (sym c.new-table.ensures) read;
      frame = ap (λ t. t.frame) c.new-table.ensures ∙ c.frame.ensures;
    }

pub returns-in_err-row-clause-fits : goal.returns-in_err-row-clause-fits
returns-in_err-row-clause-fits c =
    let fault = c.in_err-row.field-0.0 in
    let p = err_from_is_err_and c.from_residual-in_err-row.result c.from_residual-in_err-row.ensures.1 in
    rw (p.1, p.2)
    (read_refused c.args.bytes.now _
    (reading_of c.loop-row.reader) c.loop-row.invariant.read fault.refusal fault.at c.in_err-row.ensures.answered)

pub next_row-requires : goal.next_row-requires
next_row-requires c = (c.in_ok-heading.heading, length c.loop-row.table.rows, c.loop-row.invariant.read.phase)

-- the row that the reader took comes next on the sheet
comes_next : (c : In-Some)
    → (length c.loop-row.table.rows < most_rows)
    × (is_on_frame c.in_ok-heading.heading.frame.ticks c.in-Some.row ≡ true)
    × HasRead c.args.bytes.now (on_sheet c.in_ok-heading.heading (c.loop-row.table.rows ++ c.in-Some.row ∷ []))
    (reading_of c.next_row.new.reader)
comes_next c =
    let taken = rw c.in-Some.is at c.in_ok-row.ensures.taken in
    let sheet = on_sheet c.in_ok-heading.heading c.loop-row.table.rows in
    let next = next_row c.args.bytes.now sheet (reading_of c.loop-row.reader) c.loop-row.invariant.read c.in-Some.row
    (reading_of c.next_row.new.reader) taken in (
      next.0,
      next.1,
      read_row c.args.bytes.now sheet (reading_of c.loop-row.reader) c.loop-row.invariant.read c.in-Some.row
          (reading_of c.next_row.new.reader) taken,
    )

pub add-requires-clause-room : goal.add-requires-clause-room
add-requires-clause-room c = (comes_next (goal.at.add-requires-clause-room c).In-Some).0

pub add-requires-clause-on : goal.add-requires-clause-on
add-requires-clause-on c =
    ap (λ h. is_on_frame h.ticks c.in-Some.row) c.loop-row.invariant.frame
    ∙ (comes_next (goal.at.add-requires-clause-on c).In-Some).1

pub loop-row-preserved : goal.loop-row-preserved
loop-row-preserved c =
    let read = (comes_next (goal.at.loop-row-preserved c).In-Some).2 in
    record {
      read =
          subst (λ t. HasRead c.args.bytes.now (on_sheet c.in_ok-heading.heading t.rows)
          (reading_of c.next_row.new.reader)) (sym c.add.ensures) read;
      frame =
          ap (λ t. t.frame) c.add.ensures ∙ c.loop-row.invariant.frame;
    }

pub returns-clause-fits : goal.returns-clause-fits
returns-clause-fits c =
    let h = c.in_ok-heading.heading in
    let none = rw c.in_default.is at c.in_ok-row.ensures.taken in
    let is = sheet_is c.of.result h c.loop-row.table.rows c.of.ensures.rows
    (c.of.ensures.frame ∙ c.loop-row.invariant.frame) c.of.ensures.bound in
    subst (λ t. FitsSheet c.args.bytes.now (gives t)) (sym is)
    (read_all c.args.bytes.now (on_sheet h c.loop-row.table.rows)
    (reading_of c.loop-row.reader) c.loop-row.invariant.read none)
