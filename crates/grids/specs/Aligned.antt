-- The text of a table, aligned by blanks.
use Rattle.std.specs.Prelude.{ℕ, suc, ◌-◌, List, [], ◌∷◌, ◌++◌, length, replicate, take, flat_map, if◌then◌else◌}
use Rattle.std.specs.Char.{is_ascii_whitespace}
use Rattle.std.specs.List.{suffix_len}
use Rattle.grids.specs.Cells.{Headings, Rows}
use Rattle.grids.specs.Columns.{columns_under, width_of}
use Rattle.grids.specs.Shown.{heading_at, shown_at}
use Rattle.grids.specs.declared.columns.AlignedColumn.{AlignedColumn}

-- blanks, as many as this
abbrev pub blanks : ℕ → List ℕ
blanks count = replicate count 32

-- a text, set to its column's side
abbrev pub padded_text : AlignedColumn → List ℕ → List ℕ
padded_text column text =
    if column.right then blanks (column.width - width_of text) ++ text
    else text ++ blanks (column.width - width_of text)

-- the texts from a place on, each set to its column's side and with two blanks behind it
abbrev pub fields_text : (ℕ → List ℕ) → ℕ → List AlignedColumn → List ℕ
fields_text text place [] = []
fields_text text place (column ∷ columns) =
    padded_text column (text place) ++ (blanks 2 ++ fields_text text (suc place) columns)

-- a line with no blanks at its end
abbrev pub trimmed : List ℕ → List ℕ
trimmed line = take (length line - suffix_len is_ascii_whitespace line) line

-- the line of the texts at each place
abbrev pub line_text : (ℕ → List ℕ) → List AlignedColumn → List ℕ
line_text text columns = trimmed (fields_text text 0 columns) ++ (10 ∷ [])

-- the text of a table: a line for the headings, and one for each row
abbrev pub aligned_text : Headings → Rows → List ℕ
aligned_text headings rows =
    let columns = columns_under headings 0 rows in
    line_text (heading_at headings) columns ++ flat_map (λ row. line_text (shown_at row.items) columns) rows
