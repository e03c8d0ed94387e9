-- What a text of JSON is read as.
use Rattle.std.specs.Prelude.{◌≡◌, ◌<◌, ◌^◌, ◌++◌, ℕ, List, Some, codes}
use Rattle.json.specs.Json.{document}
use Rattle.serde_json.specs.Data.{number, unsigned}
use Rattle.serde_json.specs.Read.{of_json, read}
use Rattle.grids.specs.Cells.{Headings, Rows}
use Rattle.grids.specs.declared.cells.Cell.TheVariants.{Number}
use Rattle.grids.specs.JsonTrees.{cell_tree, table_tree}

-- a text is this table: by the grammar, with every member in its order, and as the kit's reader takes it
pub record ReadsAs (text : List ℕ) (headings : Headings) (rows : Rows) : Type 0 where
  pub ordered : document text ≡ Some (table_tree headings rows)
  pub taken : read text ≡ of_json (table_tree headings rows)

-- a text ended by LF is this table
abbrev pub IsTextOf : List ℕ → Headings → Rows → Type 0
IsTextOf bytes headings rows = (text : List ℕ) × (bytes ≡ text ++ codes "\n") × ReadsAs text headings rows

-- the kit's reader takes a number of 64 bits as that number
abbrev pub NumbersTaken : Type 0
NumbersTaken = (n : ℕ) → n < 2 ^ 64 → of_json (cell_tree (Number n)) ≡ Some (number (unsigned n))
