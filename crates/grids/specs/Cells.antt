-- Cells, rows of them and headings.
use Rattle.std.specs.Prelude.{◌≡◌, ◌<◌, ◌^◌, ℕ, Bool, true, false, List, Vec, slice_get, string_bytes}
use Rattle.std.specs.Borrow.{Bor}
use Rattle.std.specs.Option.{option_map_or}
use Rattle.std.specs.Str.Parse.{IsNumeral, digits_value}
use Rattle.std.specs.declared.alloc.Global.{Global}
use Rattle.grids.specs.declared.cells.Cell.{Cell}
use Rattle.grids.specs.declared.cells.Cell.TheVariants.{Nothing, Truth, Number, Text}

-- the rows of a table
abbrev pub Rows : Type 0
Rows = List (Vec Cell Global)

-- the headings of a table
abbrev pub Headings : Type 0
Headings = List (Bor (List ℕ))

-- a cell of this text
abbrev pub IsText : List ℕ → Cell → Type 0
IsText bytes Nothing = ⊥
IsText bytes (Truth truth) = ⊥
IsText bytes (Number n) = ⊥
IsText bytes (Text text) = string_bytes text ≡ bytes

-- a cell is a number
abbrev pub is_number : Cell → Bool
is_number Nothing = false
is_number (Truth truth) = false
is_number (Number n) = true
is_number (Text text) = false

-- a row has a number at a place
abbrev pub has_number : ℕ → List Cell → Bool
has_number place row = option_map_or is_number (slice_get row place) false

-- each number of 64 bits, written so, reads back as that number
abbrev pub NumbersReadBack : (Cell → List ℕ) → Type 0
NumbersReadBack written =
    (n : ℕ) → n < 2 ^ 64 → IsNumeral 10 (written (Number n)) × (digits_value 10 (written (Number n)) ≡ n)
