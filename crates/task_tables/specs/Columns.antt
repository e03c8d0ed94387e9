-- The columns of a table, which its heading names.
use Rattle.std.specs.Prelude.{◌≡◌, ℕ, Bool, true, ◌==◌, ◌&&◌, List, [], ◌∷◌, map, codes, Option, None, Some}
use Rattle.std.specs.Prelude.{if◌then◌else◌}
use Rattle.std.specs.List.{list_any, IsDistinct}
use Rattle.std.specs.Str.{bytes_eq}
use Rattle.task_tables.specs.declared.columns.Column.{Column}
use Rattle.task_tables.specs.declared.columns.Column.TheVariants.{Name, Work, Deadline, Period, Jitter}

-- the headings by which a column may be named, as bytes
abbrev pub headings_of : Column → List (List ℕ)
headings_of Name = codes "name" ∷ []
headings_of Work = codes "work" ∷ codes "wcet" ∷ codes "C" ∷ []
headings_of Deadline = codes "deadline" ∷ codes "D" ∷ []
headings_of Period = codes "period" ∷ codes "T" ∷ []
headings_of Jitter = codes "jitter" ∷ codes "J" ∷ []

-- a heading names a column
abbrev pub is_named : Column → List ℕ → Bool
is_named column heading = list_any (bytes_eq heading) (headings_of column)

-- the column that a heading names, if it names one
abbrev pub column_named : List ℕ → Option Column
column_named heading =
    if is_named Name heading then Some Name
    else if is_named Work heading then Some Work
    else if is_named Deadline heading then Some Deadline
    else if is_named Period heading then Some Period
    else if is_named Jitter heading then Some Jitter
    else None

-- the place of a column among the five
abbrev pub column_number : Column → ℕ
column_number Name = 0
column_number Work = 1
column_number Deadline = 2
column_number Period = 3
column_number Jitter = 4

-- two columns are the same
abbrev pub is_column : Column → Column → Bool
is_column c d = column_number d == column_number c

-- a column is among some
abbrev pub has_column : List Column → Column → Bool
has_column columns c = list_any (is_column c) columns

-- no column stands twice among some
abbrev pub AreDistinct : List Column → Type 0
AreDistinct columns = IsDistinct (λ c d. column_number c == column_number d) columns

-- the columns that must be there are among some
abbrev pub has_numbers : List Column → Bool
has_numbers columns = has_column columns Work && (has_column columns Deadline && has_column columns Period)

-- the headings of a line name these columns: each once, and those that must be there
pub record IsHeading (headings : List (List ℕ)) (columns : List Column) : Type 0 where
  pub named : map column_named headings ≡ map (λ c. Some c) columns
  pub once : AreDistinct columns
  pub numbers : has_numbers columns ≡ true
