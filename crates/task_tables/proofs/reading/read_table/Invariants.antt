use Rattle.std.proofs.Common.{◌≡◌, ◌≤◌, length, map, take}
use Rattle.csv.specs.Records.{fields_of}
use Rattle.task_tables.specs.Forms.{config_of}
use Rattle.task_tables.specs.Lines.{behind}
use Rattle.task_tables.specs.Rows.{rows_in}
use Rattle.task_tables.specs.Tables.{AreRead}
use Rattle.task_tables.specs.Told.{AreTaken}
use Rattle.task_tables.proofs.reading.read_table.Given as goal

abbrev pub invariant-loop-record : goal.invariant-loop-record
invariant-loop-record l =
    record {
      left : l.left ≡ behind (config_of l.form) l.text l.record-index;
      within : length l.left ≤ length l.text;
      read : AreRead (rows_in l.form l.text (map fields_of (take l.record-index l.records))) l.table;
      taken : AreTaken (rows_in l.form l.text (map fields_of (take l.record-index l.records))) l.table;
    }
