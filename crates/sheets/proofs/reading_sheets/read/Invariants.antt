use Rattle.std.proofs.Common.{◌≡◌, length}
use Rattle.reading.specs.Readers.{reading_of}
use Rattle.sheets.specs.Tables.{on_sheet}
use Rattle.sheets.proofs.Walks.{HasRead}
use Rattle.sheets.proofs.reading_sheets.read.Given as goal

-- the reader has come behind the rows of the table, which is on the heading's frame
abbrev pub invariant-loop-row : goal.invariant-loop-row
invariant-loop-row l =
    record {
      read : HasRead l.bytes (on_sheet l.heading l.table.rows) (reading_of l.reader);
      frame : l.table.frame ≡ l.heading.frame;
    }

abbrev pub decreases-loop-row : goal.decreases-loop-row
decreases-loop-row l = length (reading_of l.reader).left
