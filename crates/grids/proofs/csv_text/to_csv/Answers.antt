use Rattle.std.proofs.Common.{◌≡◌, ◌++◌, []}
use Rattle.grids.proofs.CsvReading.{are_records, text_is}
use Rattle.grids.specs.CsvFields.{records_of}
use Rattle.std.proofs.lemmas.Fmt.{decimal_is_IsNumeral}
use Rattle.grids.proofs.csv_text.to_csv.Goals as goal

pub returns-in-Ok-clause-records : goal.returns-in-Ok-clause-records
returns-in-Ok-clause-records c =
    let from = c.from_writer-writer.ensures in
    let writer = c.from_writer-writer.result.wtr in
    let nothing : writer.inner.items ++ writer.buf ≡ [] = rw (from.wtr, c.new-2.ensures.items, from.empty) in
    let headings = rw c.deref.ensures.value at c.in_ok-write_heading_record.ensures.bytes in
    let rows = rw (c.deref-2.ensures.value, c.deref-3.ensures.value) at c.in_ok-write_row_records.ensures.bytes in
    are_records c.in-Ok.text.items (records_of c.args.grid.now.headings.items c.args.grid.now.rows.items)
    (text_is _ _ _ _ _ _ c.in-Ok.ensures.ok rows headings nothing)

pub returns-in-Ok-clause-numbers : goal.returns-in-Ok-clause-numbers
returns-in-Ok-clause-numbers c = decimal_is_IsNumeral
