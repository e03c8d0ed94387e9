-- The columns of an aligned table.
use Rattle.std.specs.Prelude.{ℕ, suc, max, ◌==◌, ◌||◌, Bool, List, [], ◌∷◌, length, count_by}
use Rattle.std.specs.Fmt.{is_char_start}
use Rattle.std.specs.List.{list_any}
use Rattle.grids.specs.Cells.{Headings, Rows, has_number}
use Rattle.grids.specs.Shown.{shown_at, shown_text}
use Rattle.grids.specs.declared.columns.AlignedColumn.{AlignedColumn}

-- how many characters a text has
abbrev pub width_of : List ℕ → ℕ
width_of text = count_by is_char_start text

-- how wide the widest text is that the rows have at a place
abbrev pub widest : ℕ → Rows → ℕ
widest place [] = 0
widest place (row ∷ rows) = max (width_of (shown_at row.items place)) (widest place rows)

-- a column is set to the right where there is no row, or a row has a number in it
abbrev pub is_right : ℕ → Rows → Bool
is_right place rows = (length rows == 0) || list_any (λ row. has_number place row.items) rows

-- the column under a heading
abbrev pub column_under : List ℕ → ℕ → Rows → AlignedColumn
column_under heading place rows = record {
  width = max (width_of (shown_text heading)) (widest place rows);
  right = is_right place rows;
}

-- the columns under headings, the first of which has this place
abbrev pub columns_under : Headings → ℕ → Rows → List AlignedColumn
columns_under [] place rows = []
columns_under (heading ∷ headings) place rows =
    column_under heading.now place rows ∷ columns_under headings (suc place) rows
