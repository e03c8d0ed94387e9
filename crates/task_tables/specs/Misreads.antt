-- What cannot be taken, and what of it is told.
use Rattle.std.specs.Prelude.{ℕ, List, Option, None, Some, option_map, if◌then◌else◌}
use Rattle.std.specs.Str.{is_utf8}
use Rattle.rows.specs.declared.refusals.Refusal.{Refusal}
use Rattle.task_tables.specs.declared.columns.Column.{Column}
use Rattle.task_tables.specs.declared.misreads.Expected.{Expected}
use Rattle.task_tables.specs.declared.misreads.Expected.TheVariants.{Text}
use Rattle.task_tables.specs.declared.misreads.Misread.{Misread}
use Rattle.task_tables.specs.declared.misreads.Place.{Place}

-- what is told where a text cannot be taken: the line, the field on it and its column where a field is concerned, what
-- was expected there, and the refusal whose condition holds
pub record ToldMisread : Type 0 where
  pub line : ℕ
  pub field : Option ℕ
  pub column : Option Column
  pub expected : Expected
  pub refusal : Option Refusal

-- what is told of a whole line
abbrev pub of_line : ℕ → Expected → Option Refusal → ToldMisread
of_line line expected refusal =
    record { line = line; field = None; column = None; expected = expected; refusal = refusal }

-- what is told of a field
abbrev pub of_field : Place → Option Column → Expected → Option Refusal → ToldMisread
of_field place column expected refusal =
    record { line = place.line; field = Some place.field; column = column; expected = expected; refusal = refusal }

-- what is expected in the place of a field: text, where its bytes are none
abbrev pub expected_for : Expected → List ℕ → Expected
expected_for expected field = if is_utf8 field then expected else Text

-- a field of a line, fields being counted from 1
abbrev pub place_at : ℕ → ℕ → Place
place_at line field = record { line = line; field = field }

-- the refusal whose condition holds
abbrev pub refusal_told : Misread → Option Refusal
refusal_told m = option_map (λ r. r.refusal) m.refused

-- what a misread tells, where it tells of a place
abbrev pub told_by : Misread → Option ToldMisread
told_by m =
    option_map (λ s.
    record { line = s.line; field = s.field; column = s.column; expected = s.expected; refusal = refusal_told m })
    m.spot
