-- The forms that a text may have: what parts the fields of a line.
use Rattle.std.specs.Prelude.{ℕ, Bool, true, ◌&&◌, ◌||◌, not, List, length, map, Some, ◌==◌, slice_index, find, filter}
use Rattle.std.specs.Prelude.{if◌then◌else◌}
use Rattle.std.specs.List.{list_any, slice_split}
use Rattle.std.specs.Option.{option_map_or}
use Rattle.csv.specs.Reading.{default_config, strip_bom}
use Rattle.csv.specs.declared.parser.Config.{Config}
use Rattle.task_tables.specs.declared.forms.FieldsForm.{FieldsForm}
use Rattle.task_tables.specs.declared.forms.FieldsForm.TheVariants.{Commas, Tabs, Blanks}
use Rattle.numerals.specs.Numerals.{is_blank}
use Rattle.task_tables.specs.Fields.{trimmed}

-- a line feed or a carriage return
abbrev pub is_line_end : ℕ → Bool
is_line_end b = (b == 10) || (b == 13)

-- a line is a comment: it begins with a number sign
abbrev pub is_comment : List ℕ → Bool
is_comment line = slice_index line 0 == 35

-- a line has more than blanks
abbrev pub has_text : List ℕ → Bool
has_text line = list_any (λ b. not (is_blank b)) line

-- a line decides the form: it is no comment, and has more than blanks
abbrev pub decides : List ℕ → Bool
decides line = not (is_comment line) && has_text line

-- the form that a line decides: a comma in it, else a tab in it, else blanks
abbrev pub form_of_line : List ℕ → FieldsForm
form_of_line line =
    if list_any (λ b. b == 44) line then Commas else (if list_any (λ b. b == 9) line then Tabs else Blanks)

-- the form of a text, which the first line that can decides
unfoldable pub form_of : List ℕ → FieldsForm
form_of text = option_map_or form_of_line (find decides (slice_split is_line_end (strip_bom text))) Blanks

-- the byte that parts the fields
abbrev pub delimiter : FieldsForm → ℕ
delimiter Commas = 44
delimiter Tabs = 9
delimiter Blanks = 32

-- how the records of a text of a form are read: no header row, and a number sign begins a comment
abbrev pub config_of : FieldsForm → Config
config_of form = record default_config { delimiter = delimiter form; comment = Some 35 }

-- a field is not empty
abbrev pub is_filled : List ℕ → Bool
is_filled field = not (length field == 0)

-- a field counts: where blanks part the fields, one that is not empty
abbrev pub counts : FieldsForm → List ℕ → Bool
counts Commas field = true
counts Tabs field = true
counts Blanks field = is_filled field

-- the fields of a record that count, without blanks around them
abbrev pub fields_in : FieldsForm → List (List ℕ) → List (List ℕ)
fields_in form fields = filter (counts form) (map trimmed fields)

-- a record says something: a field of it is not empty
abbrev pub says : List (List ℕ) → Bool
says fields = list_any is_filled fields
