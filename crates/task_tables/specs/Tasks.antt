-- The task of a record, by the columns that the heading names.
use Rattle.std.specs.Prelude.{◌≡◌, ℕ, ◌^◌, ◌<◌, ◌==◌, Bool, List, [], ◌∷◌, length, position, Option, None, Some}
use Rattle.std.specs.Prelude.{is_some, option_map, unwrap_or, decimal, if◌then◌else◌}
use Rattle.std.specs.List.{slice_get}
use Rattle.std.specs.Option.{option_and_then}
use Rattle.std.specs.Str.{is_utf8}
use Rattle.rows.specs.declared.refusals.Refusal.{Refusal}
use Rattle.rows.specs.declared.refusals.Refusal.TheVariants.{NoWindow, LateDeadline, LongPeriod}
use Rattle.rows.specs.declared.tasks.Numbers.{Numbers}
use Rattle.task_tables.specs.declared.columns.Column.{Column}
use Rattle.task_tables.specs.declared.columns.Column.TheVariants.{Name, Work, Deadline, Period, Jitter}
use Rattle.task_tables.specs.Columns.{has_column, is_column}
use Rattle.numerals.specs.Numerals.{is_digits, number_of}

-- the field of a record under a column
abbrev pub field_under : List Column → List (List ℕ) → Column → Option (List ℕ)
field_under columns fields c = option_and_then (slice_get fields) (position (is_column c) columns)

-- the number that stands under a column, if one does
abbrev pub number_under : List Column → List (List ℕ) → Column → Option ℕ
number_under columns fields c = option_and_then number_of (field_under columns fields c)

-- the jitter of a record: 0, where there is no such column
abbrev pub jitter_of : List Column → List (List ℕ) → Option ℕ
jitter_of columns fields = if has_column columns Jitter then number_under columns fields Jitter else Some 0

-- the name of a record: nothing, where there is no such column
abbrev pub name_of : List Column → List (List ℕ) → List ℕ
name_of columns fields = unwrap_or (field_under columns fields Name) []

-- four numbers, where each is one
abbrev pub all_numbers : (work deadline period jitter : Option ℕ) → Option Numbers
all_numbers None d p j = None
all_numbers (Some w) None p j = None
all_numbers (Some w) (Some d) None j = None
all_numbers (Some w) (Some d) (Some p) None = None
all_numbers (Some w) (Some d) (Some p) (Some j) = Some (record { work = w; deadline = d; period = p; jitter = j })

-- the numbers of a record that has a field for each column
abbrev pub numbers_of : List Column → List (List ℕ) → Option Numbers
numbers_of columns fields =
    if length fields == length columns
    then all_numbers (number_under columns fields Work) (number_under columns fields Deadline)
    (number_under columns fields Period) (jitter_of columns fields)
    else None

-- the columns of the four numbers
abbrev pub four_columns : List Column
four_columns = Work ∷ Deadline ∷ Period ∷ Jitter ∷ []

-- the fields that write four numbers, in decimal
abbrev pub four_fields : Numbers → List (List ℕ)
four_fields n = decimal n.work ∷ decimal n.deadline ∷ decimal n.period ∷ decimal n.jitter ∷ []

-- numbers of 32 bits, written in decimal in the order of these columns, are read as themselves
abbrev pub DecimalsRead : Type 0
DecimalsRead =
    (n : Numbers) → n.work < 2 ^ 32 → n.deadline < 2 ^ 32 → n.period < 2 ^ 32 → n.jitter < 2 ^ 32
    → numbers_of four_columns (four_fields n) ≡ Some n

-- a field can stand under a column
abbrev pub fits : Column → List ℕ → Bool
fits Name field = is_utf8 field
fits Work field = is_some (number_of field)
fits Deadline field = is_some (number_of field)
fits Period field = is_some (number_of field)
fits Jitter field = is_some (number_of field)

-- the refusal whose condition holds where a whole number that is too large for 32 bits stands under a column
abbrev pub refusal_under : List Column → List (List ℕ) → Column → Option Refusal
refusal_under columns fields Name = None
refusal_under columns fields Work = option_map (λ d. NoWindow) (number_under columns fields Deadline)
refusal_under columns fields Deadline = option_map (λ p. LateDeadline) (number_under columns fields Period)
refusal_under columns fields Period = Some LongPeriod
refusal_under columns fields Jitter = option_map (λ d. NoWindow) (number_under columns fields Deadline)

-- the refusal told of a field that is no number of 32 bits, where its condition holds of what was written
abbrev pub refusal_of : List Column → List (List ℕ) → Column → List ℕ → Option Refusal
refusal_of columns fields c field = if is_digits field then refusal_under columns fields c else None
