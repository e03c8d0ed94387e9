-- A table as JSON: an array of objects, whose members stand in the order of the headings.
use Rattle.std.specs.Prelude.{ℕ, suc, List, [], ◌∷◌, decimal, string_bytes, slice_get}
use Rattle.std.specs.Option.{option_map_or}
use Rattle.json.specs.Json.{Json, null, boolean, number, string, array, object, Items, no_items, item, Members}
use Rattle.json.specs.Json.{no_members, member}
use Rattle.grids.specs.Cells.{Headings, Rows}
use Rattle.grids.specs.declared.cells.Cell.{Cell}
use Rattle.grids.specs.declared.cells.Cell.TheVariants.{Nothing, Truth, Number, Text}

-- a cell
abbrev pub cell_tree : Cell → Json
cell_tree Nothing = null
cell_tree (Truth truth) = boolean truth
cell_tree (Number n) = number (decimal n)
cell_tree (Text text) = string (string_bytes text)

-- what a row has at a place
abbrev pub tree_at : List Cell → ℕ → Json
tree_at row place = option_map_or cell_tree (slice_get row place) null

-- the members of a row under headings, the first of which has this place
abbrev pub members_from : Headings → ℕ → List Cell → Members
members_from [] place row = no_members
members_from (heading ∷ headings) place row =
    member heading.now (tree_at row place) (members_from headings (suc place) row)

-- an object for each row
abbrev pub rows_tree : Headings → Rows → Items
rows_tree headings [] = no_items
rows_tree headings (row ∷ rows) = item (object (members_from headings 0 row.items)) (rows_tree headings rows)

-- a table
abbrev pub table_tree : Headings → Rows → Json
table_tree headings rows = array (rows_tree headings rows)
