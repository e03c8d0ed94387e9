-- What cells of a text are shown as.
use Rattle.std.proofs.Common.{◌≡◌, ℕ, List, ◌++◌, map, Some, None, Option, refl, ap, ap₂, ◌∙◌}
use Rattle.std.proofs.lemmas.List.{map-append}
use Rattle.rows.specs.declared.tasks.Numbers.{Numbers}
use Rattle.rows.specs.Found.{Found}
use Rattle.leaves.specs.declared.entries.Heading.{Heading}
use Rattle.grids.specs.Cells.{IsText}
use Rattle.grids.specs.Shown.{shown_of, shown_text}
use Rattle.grids.specs.declared.cells.Cell.{Cell}
use Rattle.grids.specs.declared.cells.Cell.TheVariants.{Nothing, Truth, Number, Text}
use Rattle.grids.specs.CsvFields.{field_of}
use Rattle.views.specs.Cells.{heading_record_fields, record_fields, row_cells, row_record_fields}

-- what is found, written out
abbrev found : Option ℕ → ℕ → Found
found rest points = record { rest = rest; points = points }

-- a cell of a text is shown as that text is
pub text_shown : (bytes : List ℕ) (cell : Cell) → IsText bytes cell → shown_of cell ≡ shown_text bytes
text_shown bytes Nothing is = absurd is
text_shown bytes (Truth truth) is = absurd is
text_shown bytes (Number n) is = absurd is
text_shown bytes (Text text) is = ap shown_text is

-- the field of a cell of a text is that text
pub text_field : (bytes : List ℕ) (cell : Cell) → IsText bytes cell → field_of cell ≡ bytes
text_field bytes Nothing is = absurd is
text_field bytes (Truth truth) is = absurd is
text_field bytes (Number n) is = absurd is
text_field bytes (Text text) is = is

-- the cells of a row tell its fields
pub row_told : (rank : ℕ) (n : Numbers) (rest : Option ℕ) (points : ℕ)
    → map field_of (row_cells rank n (found rest points)) ≡ row_record_fields rank n (found rest points)
row_told rank n None points = refl
row_told rank n (Some rest) points = refl

-- the cells of a row behind those of the heading tell the fields of a record
pub record_told : (name : List ℕ) (h : Heading) (rank : ℕ) (n : Numbers) (f : Found) (cells : List Cell)
    → map field_of cells ≡ heading_record_fields name h
    → map field_of (cells ++ row_cells rank n f) ≡ record_fields name h rank n f
record_told name h rank n f cells heading =
    map-append field_of cells (row_cells rank n f) ∙ ap₂ (λ xs ys. xs ++ ys) heading (row_told rank n f.rest f.points)
