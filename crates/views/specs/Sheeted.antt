-- The sheet of a task table that was read.
use Rattle.std.specs.Prelude.{◌≡◌, ℕ, List, Option}
use Rattle.rows.specs.declared.frames.FrameNumbers.{FrameNumbers}
use Rattle.bounds.specs.declared.families.Family.{Family}
use Rattle.sheets.specs.Tables.{OnSheet, sheet_bytes}
use Rattle.filings.specs.Checks.{frame_for}
use Rattle.filings.specs.Filings.{heading_numbers}
use Rattle.filings.specs.Sheets.{IsTableOf}
use Rattle.task_tables.specs.declared.tables.TaskTable.{TaskTable}
use Rattle.task_tables.specs.Tables.{table_numbers, ReadsAll}

-- some bytes are the sheet of a table: its tasks are the rows, in their order, below a heading of the frame that is
-- named, or else the common one, and of the bound that is named
pub record IsSheetOf (frame : Option FrameNumbers) (bound : Family × ℕ) (table : TaskTable)
    (bytes : List ℕ) : Type 0 where
  pub sheet : OnSheet
  pub tasks : IsTableOf (heading_numbers (frame_for frame (table_numbers table)) bound) (table_numbers table) sheet
  pub encoded : bytes ≡ sheet_bytes sheet

-- bytes are the sheet of the table that a reader held
pub record IsSheetFor (frame : Option FrameNumbers) (bound : Family × ℕ) (held : Option (List ℕ))
    (bytes : List ℕ) : Type 0 where
  pub table : TaskTable
  pub read : ReadsAll held table
  pub sheet : IsSheetOf frame bound table bytes
