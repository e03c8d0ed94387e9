-- What it means that a text is no table.
use Rattle.std.specs.Prelude.{◌≡◌, ℕ, ◌≤◌, ◌⊎◌, Bool, true, false, List, length, Option, None}
use Rattle.std.specs.Str.{IsUtf8}
use Rattle.task_tables.specs.declared.columns.Column.{Column}
use Rattle.task_tables.specs.declared.errors.ReadError.{ReadError}
use Rattle.task_tables.specs.declared.errors.ReadError.TheVariants.{Input, Memory, Misread}
use Rattle.task_tables.specs.declared.tables.TaskTable.{TaskTable}
use Rattle.task_tables.specs.Columns.{IsHeading}
use Rattle.task_tables.specs.Rows.{FieldRow}
use Rattle.streams.specs.Held.{MayHold}
use Rattle.task_tables.specs.Tables.{IsReadFrom, IsTable, table_columns, table_numbers}
use Rattle.task_tables.specs.Tasks.{name_of, numbers_of}

-- an error is a misread: neither the input failed nor memory ran out
abbrev pub is_misread : ReadError → Bool
is_misread (Misread m) = true
is_misread (Input e) = false
is_misread (Memory e) = false

-- the headings of a line name no columns of a table
abbrev pub AreNoHeading : List (List ℕ) → Type 0
AreNoHeading headings = (columns : List Column) → ¬ (IsHeading headings columns)

-- a table cannot take the task of a row: it has 32, or the row lacks a number, or its name is no text
abbrev pub CannotTake : TaskTable → List (List ℕ) → Type 0
CannotTake t fields =
    (32 ≤ length (table_numbers t))
    ⊎ ((numbers_of (table_columns t) fields ≡ None) ⊎ (¬ (IsUtf8 (name_of (table_columns t) fields))))

-- some rows are no table, whichever it may be
abbrev pub AreNoTable : List FieldRow → Type 0
AreNoTable rows = (t : TaskTable) → ¬ (IsTable rows t)

-- no table can be read from some bytes
abbrev pub IsNoTable : List ℕ → Type 0
IsNoTable bytes = (t : TaskTable) → ¬ (IsReadFrom bytes t)

-- no table can be read from all that a reader held
pub record ReadsNone (held : Option (List ℕ)) : Type 0 where
  pub bytes : List ℕ
  pub all : MayHold held bytes
  pub none : IsNoTable bytes
