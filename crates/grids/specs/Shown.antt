-- The text of a cell, as an aligned table shows it.
use Rattle.std.specs.Prelude.{ℕ, ◌==◌, List, length, map, codes, decimal, string_bytes, slice_get, if◌then◌else◌}
use Rattle.std.specs.Char.{is_ascii_control}
use Rattle.std.specs.Option.{option_map_or}
use Rattle.grids.specs.Cells.{Headings}
use Rattle.grids.specs.declared.cells.Cell.{Cell}
use Rattle.grids.specs.declared.cells.Cell.TheVariants.{Nothing, Truth, Number, Text}

-- what is shown where there is nothing
abbrev pub dash : List ℕ
dash = codes "-"

-- a byte of a text as it is shown: a question mark for a control character
abbrev pub printable : ℕ → ℕ
printable byte = if is_ascii_control byte then 63 else byte

-- a text as it is shown
abbrev pub shown_text : List ℕ → List ℕ
shown_text text = if length text == 0 then dash else map printable text

-- a cell as it is shown
abbrev pub shown_of : Cell → List ℕ
shown_of Nothing = dash
shown_of (Truth truth) = if truth then codes "yes" else codes "no"
shown_of (Number n) = decimal n
shown_of (Text text) = shown_text (string_bytes text)

-- what is shown at a place of a row
abbrev pub shown_at : List Cell → ℕ → List ℕ
shown_at row place = option_map_or shown_of (slice_get row place) dash

-- what is shown at a place of the headings
abbrev pub heading_at : Headings → ℕ → List ℕ
heading_at headings place = option_map_or (λ heading. shown_text heading.now) (slice_get headings place) dash
