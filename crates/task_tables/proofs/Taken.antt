-- What is told of rows, one more at a time.
use Rattle.std.proofs.Common.{◌≡◌, ℕ, suc, ◌+◌, List, [], ◌∷◌, ◌++◌, Option, None, Some, length, refl, sym, ap, subst}
use Rattle.std.proofs.Common.{◌∙◌, arith}
use Rattle.std.specs.Option.{option_or}
use Rattle.std.proofs.lemmas.List.{length-append}
use Rattle.task_tables.specs.declared.columns.Column.{Column}
use Rattle.task_tables.specs.declared.errors.ReadError.{ReadError}
use Rattle.task_tables.specs.declared.errors.ReadError.TheVariants as error
use Rattle.task_tables.specs.declared.misreads.Expected.TheVariants as expected
use Rattle.task_tables.specs.declared.tables.TaskTable.{TaskTable}
use Rattle.task_tables.specs.Columns.{AreDistinct, IsHeading, has_numbers}
use Rattle.task_tables.specs.Lines.{line_behind}
use Rattle.task_tables.specs.Misreads.{ToldMisread, of_line}
use Rattle.task_tables.specs.Rows.{FieldRow}
use Rattle.task_tables.specs.Tables.{TakesTask, table_columns, table_numbers}
use Rattle.task_tables.specs.Told.{IsTaken, Tells, columns_of, headings_told, rows_told, task_told, tasks_told}

-- an error tells more than it does, where the same is told there
pub tells_more : (a b : Option ToldMisread) (e : ReadError) → ((t : ToldMisread) → a ≡ Some t → b ≡ Some t) → Tells a e
    → Tells b e
tells_more a b (error.Misread m) more (t, at, by) = (t, more t at, by)
tells_more a b (error.Input e) more h = tt
tells_more a b (error.Memory e) more h = tt

or_assoc : {X : Type 0} (a b c : Option X) → option_or a (option_or b c) ≡ option_or (option_or a b) c
or_assoc None b c = refl
or_assoc (Some x) b c = refl

-- what is told of tasks in two parts
tasks_append : (columns : List Column) (k : ℕ) (xs ys : List FieldRow)
    → tasks_told columns k (xs ++ ys) ≡ option_or (tasks_told columns k xs) (tasks_told columns (k + length xs) ys)
unfolding tasks_told
tasks_append columns k [] ys = ap (λ n. tasks_told columns n ys) (omega arith)
tasks_append columns k (x ∷ xs) ys =
    let rest = tasks_append columns (suc k) xs ys
    ∙ ap (λ n. option_or (tasks_told columns (suc k) xs) (tasks_told columns n ys)) (omega arith) in
    ap (option_or (task_told columns k x)) rest
    ∙ or_assoc (task_told columns k x) (tasks_told columns (suc k) xs) (tasks_told columns (k + length (x ∷ xs)) ys)

-- one task, and one in front of others
one_task : (columns : List Column) (k : ℕ) (row : FieldRow) → task_told columns k row ≡ None
    → tasks_told columns k (row ∷ []) ≡ None
unfolding tasks_told
one_task columns k row none = rw none refl

first_task : (columns : List Column) (k : ℕ) (row : FieldRow) (rest : List FieldRow) (t : ToldMisread)
    → task_told columns k row ≡ Some t → tasks_told columns k (row ∷ rest) ≡ Some t
unfolding tasks_told
first_task columns k row rest t some = rw some refl

-- a heading alone
pub first_taken : (t : TaskTable) (row : FieldRow) (rows : List FieldRow) → IsHeading row.fields (table_columns t)
    → table_columns t ≡ columns_of row.fields → headings_told row.line [] row.fields ≡ None
    → table_numbers t ≡ [] → rows ≡ [] → IsTaken (rows ++ row ∷ []) t
unfolding tasks_told
first_taken t row rows h columns none numbers empty =
    record {
      headings = row;
      tasks = [];
      parts = rw empty refl;
      columns = columns;
      once = h.once;
      numbers = h.numbers;
      heading = none;
      count = ap length numbers;
      none = refl;
    }

-- one task more
pub next_taken : (old new : TaskTable) (row : FieldRow) (rows : List FieldRow) → IsTaken rows old
    → TakesTask old new row
    → (AreDistinct (table_columns old) → task_told (table_columns old) (length (table_numbers old)) row ≡ None)
    → IsTaken (rows ++ row ∷ []) new
next_taken old new row rows taken takes none =
    let size : length (table_numbers new) ≡ length (table_numbers old) + 1 =
    ap length takes.numbers ∙ length-append (table_numbers old) (takes.task ∷ []) in
    let tasks : length (taken.tasks ++ row ∷ []) ≡ length taken.tasks + 1 = length-append taken.tasks (row ∷ []) in
    let count = taken.count in
    let one : task_told (table_columns old) (0 + length taken.tasks) row ≡ None =
    ap (λ n. task_told (table_columns old) n row) (omega arith) ∙ none taken.once in
    record {
      headings = taken.headings;
      tasks = taken.tasks ++ row ∷ [];
      parts = ap (λ t. t ++ row ∷ []) taken.parts;
      columns = takes.columns ∙ taken.columns;
      once = subst AreDistinct (sym takes.columns) taken.once;
      numbers = ap has_numbers takes.columns ∙ taken.numbers;
      heading = taken.heading;
      count = omega arith;
      none =
          ap (λ cs. tasks_told cs 0 (taken.tasks ++ row ∷ [])) takes.columns
          ∙ tasks_append (table_columns old) 0 taken.tasks (row ∷ [])
          ∙ rw (taken.none) (one_task (table_columns old) (0 + length taken.tasks) row one);
    }

-- what is told of a row behind those that were taken
pub next_told : (text : List ℕ) (old : TaskTable) (row : FieldRow) (rows rest : List FieldRow) (t : ToldMisread)
    → IsTaken rows old
    → task_told (table_columns old) (length (table_numbers old)) row ≡ Some t
    → rows_told text (rows ++ row ∷ rest) ≡ Some t
next_told text old row rows rest t taken some =
    let count = taken.count in
    let one : task_told (table_columns old) (0 + length taken.tasks) row ≡ Some t =
    ap (λ n. task_told (table_columns old) n row) (omega arith) ∙ some in
    let tasks : tasks_told (columns_of taken.headings.fields) 0 (taken.tasks ++ row ∷ rest) ≡ Some t =
    ap (λ cs. tasks_told cs 0 (taken.tasks ++ row ∷ rest)) (sym taken.columns)
    ∙ tasks_append (table_columns old) 0 taken.tasks (row ∷ rest)
    ∙ rw (taken.none) (first_task (table_columns old) (0 + length taken.tasks) row rest t one) in
    ap (λ rs. rows_told text (rs ++ row ∷ rest)) taken.parts ∙ rw taken.heading tasks

pub first_told : (text : List ℕ) (row : FieldRow) (rows rest : List FieldRow) (t : ToldMisread) → rows ≡ []
    → headings_told row.line [] row.fields ≡ Some t → rows_told text (rows ++ row ∷ rest) ≡ Some t
first_told text row rows rest t empty some = rw (empty, some) refl

pub none_told : (text : List ℕ) (rows : List FieldRow) → rows ≡ []
    → rows_told text rows ≡ Some (of_line (line_behind text) expected.HeadingLine None)
none_told text rows empty = rw empty refl
