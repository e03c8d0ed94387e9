-- A table of tasks, and the text that it is read from.
use Rattle.std.specs.Prelude.{◌≡◌, ℕ, ◌+◌, List, [], ◌∷◌, ◌++◌, map, position, Option, None, Some, option_map}
use Rattle.std.specs.String.{string_bytes}
use Rattle.csv.specs.Reading.{AreRecords, strip_bom}
use Rattle.csv.specs.declared.parser.State.TheVariants as st
use Rattle.rows.specs.declared.tasks.Numbers.{Numbers}
use Rattle.task_tables.specs.declared.columns.Column.{Column}
use Rattle.task_tables.specs.declared.tables.TaskTable.{TaskTable}
use Rattle.task_tables.specs.Columns.{IsHeading, is_column}
use Rattle.task_tables.specs.Forms.{config_of, form_of}
use Rattle.task_tables.specs.Rows.{FieldRow, rows_in}
use Rattle.task_tables.specs.Tasks.{name_of, numbers_of}
use Rattle.streams.specs.Held.{MayHold}

-- the columns of a table
abbrev pub table_columns : TaskTable → List Column
table_columns t = t.columns.items

-- the numbers of its tasks, in their order
abbrev pub table_numbers : TaskTable → List Numbers
table_numbers t = t.numbers.items

-- the names of its tasks, as bytes
abbrev pub table_names : TaskTable → List (List ℕ)
table_names t = map string_bytes t.names.items

-- the lines on which they stand
abbrev pub table_lines : TaskTable → List ℕ
table_lines t = t.lines.items

-- which field of a record stands under a column, counted from 1
abbrev pub field_of : List Column → Column → Option ℕ
field_of columns c = option_map (λ k. k + 1) (position (is_column c) columns)

-- the task of a row stands behind those that a table had
pub record TakesTask (old new : TaskTable) (row : FieldRow) : Type 0 where
  pub columns : table_columns new ≡ table_columns old
  pub task : Numbers
  pub reads : numbers_of (table_columns old) row.fields ≡ Some task
  pub numbers : table_numbers new ≡ table_numbers old ++ task ∷ []
  pub names : table_names new ≡ table_names old ++ name_of (table_columns old) row.fields ∷ []
  pub lines : table_lines new ≡ table_lines old ++ row.line ∷ []

-- a table is what some rows say: the first is its heading, and each other is a task
pub record IsTable (rows : List FieldRow) (t : TaskTable) : Type 0 where
  pub headings : FieldRow
  pub tasks : List FieldRow
  pub parts : rows ≡ headings ∷ tasks
  pub heading : IsHeading headings.fields (table_columns t)
  pub numbers : map (λ r. numbers_of (table_columns t) r.fields) tasks ≡ map (λ n. Some n) (table_numbers t)
  pub names : map (λ r. name_of (table_columns t) r.fields) tasks ≡ table_names t
  pub lines : map (λ r. r.line) tasks ≡ table_lines t

-- rows of fields are read as a table; or none of them says anything, where there is no table
abbrev pub AreRead : List FieldRow → Option TaskTable → Type 0
AreRead rows None = rows ≡ []
AreRead rows (Some t) = IsTable rows t

-- these are the rows of some bytes
pub record AreRows (bytes : List ℕ) (rows : List FieldRow) : Type 0 where
  pub records : List (List (List ℕ))
  pub are_records : AreRecords (config_of (form_of bytes)) st.StartRecord (strip_bom bytes) records
  pub rows_are : rows ≡ rows_in (form_of bytes) (strip_bom bytes) records

-- a table is read from some bytes: it is what their rows say
pub record IsReadFrom (bytes : List ℕ) (t : TaskTable) : Type 0 where
  pub rows : List FieldRow
  pub are_rows : AreRows bytes rows
  pub table : IsTable rows t

-- a table is read from all that a reader held
pub record ReadsAll (held : Option (List ℕ)) (t : TaskTable) : Type 0 where
  pub bytes : List ℕ
  pub all : MayHold held bytes
  pub table : IsReadFrom bytes t
