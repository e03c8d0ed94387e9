-- The fields of a table's records, as CSV.
use Rattle.std.specs.Prelude.{ℕ, suc, List, [], ◌∷◌, map, codes, decimal, string_bytes, slice_get, if◌then◌else◌}
use Rattle.std.specs.Option.{option_map_or}
use Rattle.grids.specs.Cells.{Headings, Rows}
use Rattle.grids.specs.declared.cells.Cell.{Cell}
use Rattle.grids.specs.declared.cells.Cell.TheVariants.{Nothing, Truth, Number, Text}

-- the field of a cell
abbrev pub field_of : Cell → List ℕ
field_of Nothing = []
field_of (Truth truth) = if truth then codes "true" else codes "false"
field_of (Number n) = decimal n
field_of (Text text) = string_bytes text

-- the field at a place of a row
abbrev pub field_at : List Cell → ℕ → List ℕ
field_at row place = option_map_or field_of (slice_get row place) []

-- the fields of a row under headings, the first of which has this place
abbrev pub fields_from : Headings → ℕ → List Cell → List (List ℕ)
fields_from [] place row = []
fields_from (heading ∷ headings) place row = field_at row place ∷ fields_from headings (suc place) row

-- the fields of the headings
abbrev pub headings_of : Headings → List (List ℕ)
headings_of headings = map (λ heading. heading.now) headings

-- the records of a table: its headings, and each row
abbrev pub records_of : Headings → Rows → List (List (List ℕ))
records_of headings rows = headings_of headings ∷ map (λ row. fields_from headings 0 row.items) rows
