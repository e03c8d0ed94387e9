-- What is told of a text that is no table: the first trouble in the order of its lines.
use Rattle.std.specs.Prelude.{◌≡◌, ℕ, suc, ◌+◌, true, ◌==◌, List, [], ◌∷◌, ◌++◌, length, Option, None, Some, nat_le, ⊤}
use Rattle.std.specs.Prelude.{if◌then◌else◌}
use Rattle.std.specs.Option.{option_map_or, option_or}
use Rattle.csv.specs.Reading.{strip_bom}
use Rattle.rows.specs.declared.refusals.Refusal.TheVariants as refusal
use Rattle.streams.specs.Held.{MayHold}
use Rattle.task_tables.specs.declared.columns.Column.{Column}
use Rattle.task_tables.specs.declared.misreads.Expected.TheVariants as expected
use Rattle.task_tables.specs.declared.misreads.Misread.{Misread}
use Rattle.task_tables.specs.declared.errors.ReadError.{ReadError}
use Rattle.task_tables.specs.declared.errors.ReadError.TheVariants as error
use Rattle.task_tables.specs.Columns.{AreDistinct, column_named, has_column, has_numbers}
use Rattle.task_tables.specs.Lines.{line_behind}
use Rattle.task_tables.specs.Misreads.{ToldMisread, expected_for, of_field, of_line, place_at, told_by}
use Rattle.task_tables.specs.Rows.{FieldRow}
use Rattle.task_tables.specs.declared.tables.TaskTable.{TaskTable}
use Rattle.task_tables.specs.Tables.{AreRows, table_columns, table_numbers}
use Rattle.task_tables.specs.Tasks.{fits, refusal_of}

-- what is told of a heading that names no column
abbrev pub no_column : ℕ → ℕ → List ℕ → ToldMisread
no_column line field heading =
    of_field (place_at line field) None (expected_for expected.Heading heading) None

-- what is told of a heading behind those of some columns: it names none, or one of these again; else what is told of
-- those behind it
abbrev pub heading_told : ℕ → List Column → List ℕ → (List Column → Option ToldMisread) → Option Column
    → Option ToldMisread
heading_told line columns heading more None = Some (no_column line (length columns + 1) heading)
heading_told line columns heading more (Some c) =
    if has_column columns c then Some (of_field (place_at line (length columns + 1)) None expected.OtherHeading None)
    else more (columns ++ c ∷ [])

-- what is told of the headings of a line, behind those of some columns: the leftmost that cannot be taken, or that one
-- is missing
unfoldable pub headings_told : ℕ → List Column → List (List ℕ) → Option ToldMisread
headings_told line columns [] = if has_numbers columns then None else Some (of_line line expected.Headings None)
headings_told line columns (h ∷ hs) = heading_told line columns h (λ more. headings_told line more hs) (column_named h)

-- the columns that headings name, in order
unfoldable pub columns_of : List (List ℕ) → List Column
columns_of [] = []
columns_of (h ∷ hs) = option_map_or (λ c. c ∷ columns_of hs) (column_named h) (columns_of hs)

-- what is told of the fields of a row, from one on, under so many of the columns: the leftmost that cannot stand under
-- its column
unfoldable pub fields_told : List Column → FieldRow → ℕ → List Column → List (List ℕ) → Option ToldMisread
fields_told all row field [] fs = None
fields_told all row field (c ∷ cs) [] = None
fields_told all row field (c ∷ cs) (f ∷ fs) =
    if fits c f then fields_told all row (field + 1) cs fs
    else Some (of_field (place_at row.line field) (Some c) (expected_for expected.Number f)
    (refusal_of all row.fields c f))

-- what is told of the fields of a row, where there are as many as columns
abbrev pub misfit_told : List Column → FieldRow → Option ToldMisread
misfit_told columns row =
    if length row.fields == length columns then fields_told columns row 1 columns row.fields else None

-- what is told of the number of fields of a row
abbrev pub count_told : List Column → FieldRow → ToldMisread
count_told columns row = of_line row.line (expected.Fields (length columns)) None

-- what is told of a row behind so many tasks: that it is one too many, then a wrong number of fields, then a field
abbrev pub task_told : List Column → ℕ → FieldRow → Option ToldMisread
task_told columns before row =
    if nat_le 32 before then Some (of_line row.line (expected.Tasks 32) (Some refusal.FullTable))
    else if length row.fields == length columns then fields_told columns row 1 columns row.fields
    else Some (count_told columns row)

-- what is told of rows behind so many tasks: what is told of the first that cannot be taken
unfoldable pub tasks_told : List Column → ℕ → List FieldRow → Option ToldMisread
tasks_told columns before [] = None
tasks_told columns before (row ∷ rows) = option_or (task_told columns before row) (tasks_told columns (suc before) rows)

-- what is told of the rows of a text: that there is none, then what is told of the headings, then of the tasks
abbrev pub rows_told : List ℕ → List FieldRow → Option ToldMisread
rows_told text [] = Some (of_line (line_behind text) expected.HeadingLine None)
rows_told text (h ∷ rows) = option_or (headings_told h.line [] h.fields) (tasks_told (columns_of h.fields) 0 rows)

-- some rows were taken into a table: nothing is told of them
pub record IsTaken (rows : List FieldRow) (t : TaskTable) : Type 0 where
  pub headings : FieldRow
  pub tasks : List FieldRow
  pub parts : rows ≡ headings ∷ tasks
  pub columns : table_columns t ≡ columns_of headings.fields
  pub once : AreDistinct (table_columns t)
  pub numbers : has_numbers (table_columns t) ≡ true
  pub heading : headings_told headings.line [] headings.fields ≡ None
  pub count : length (table_numbers t) ≡ length tasks
  pub none : tasks_told (table_columns t) 0 tasks ≡ None

-- the same where there is a table; else there are no rows
abbrev pub AreTaken : List FieldRow → Option TaskTable → Type 0
AreTaken rows None = rows ≡ []
AreTaken rows (Some t) = IsTaken rows t

-- an error tells this, where it is a misread
abbrev pub Tells : Option ToldMisread → ReadError → Type 0
Tells told (error.Misread m) = (t : ToldMisread) × (told ≡ Some t) × (told_by m ≡ Some t)
Tells told (error.Input e) = ⊤
Tells told (error.Memory e) = ⊤

-- a misread tells what is told of the rows of some bytes
pub record IsTold (bytes : List ℕ) (m : Misread) : Type 0 where
  pub rows : List FieldRow
  pub are_rows : AreRows bytes rows
  pub told : ToldMisread
  pub first : rows_told (strip_bom bytes) rows ≡ Some told
  pub is_told : told_by m ≡ Some told

-- an error tells what is told of the rows of some bytes, where it is a misread
abbrev pub TellsOf : List ℕ → ReadError → Type 0
TellsOf bytes (error.Misread m) = IsTold bytes m
TellsOf bytes (error.Input e) = ⊤
TellsOf bytes (error.Memory e) = ⊤

-- a misread tells what is told of the rows of all that a reader held
pub record IsToldOfAll (held : Option (List ℕ)) (m : Misread) : Type 0 where
  pub bytes : List ℕ
  pub all : MayHold held bytes
  pub told : IsTold bytes m

-- an error does so, where it is a misread
abbrev pub TellsOfAll : Option (List ℕ) → ReadError → Type 0
TellsOfAll held (error.Misread m) = IsToldOfAll held m
TellsOfAll held (error.Input e) = ⊤
TellsOfAll held (error.Memory e) = ⊤
