use Rattle.std.proofs.Common.{◌≡◌, ◌++◌, ℕ, List, map, drop}
use Rattle.std.specs.Io.KnownBytes.{Appends}
use Rattle.csv.specs.Writing.{text_written}
use Rattle.grids.specs.CsvFields.{fields_from}
use Rattle.grids.specs.CsvRecords.{IsFresh, rows_text}
use Rattle.grids.proofs.csv_text.write_row_records.Given as goal

-- the text so far, with that of the rows from here on, is that of all rows
abbrev pub invariant-loop-row : goal.invariant-loop-row
invariant-loop-row g l = record {
  fresh : IsFresh l.writer;
  bytes : (bs : List ℕ)
      × Appends (text_written g.W.Write.contents l.initial.writer) (text_written g.W.Write.contents l.writer) bs
      × (bs ++ rows_text (map (λ row. fields_from l.headings 0 row.items) (drop l.row-index l.rows))
      ≡ rows_text (map (λ row. fields_from l.headings 0 row.items) l.rows));
}
