-- The tokens of a table are read back as the table, by the grammar of JSON.
use Rattle.std.proofs.Common.{◌≡◌, ◌∙◌, ℕ, ◌≤◌, suc, List, [], ◌∷◌, ◌++◌, Option, Some, None, refl, sym, ap, arith}
use Rattle.std.proofs.Common.{append-nil, option_and_then}
use Rattle.std.specs.Prelude.{slice_get, option_map}
use Rattle.std.specs.Option.{option_map_or}
use Rattle.json.specs.Json.{Json, null, value, if_last, max_depth}
use Rattle.json.specs.Lex.{tokens}
use Rattle.json.specs.Print.{print}
use Rattle.json.specs.Token.{Token}
use Rattle.json.specs.Tree.{depth, items_depth, items_tokens, json_tokens, members_depth}
use Rattle.json.proofs.Printed.Trees.{value-json_tokens}
use Rattle.serde_json.specs.Data.{number}
use Rattle.serde_json.specs.Read.{of_json}
use Rattle.serde_json.specs.Read as taken
use Rattle.serde_json.proofs.Numbers.{number_of-decimal}
use Rattle.grids.specs.Cells.{Headings, Rows}
use Rattle.grids.specs.declared.cells.Cell.{Cell}
use Rattle.grids.specs.declared.cells.Cell.TheVariants.{Nothing, Truth, Number, Text}
use Rattle.grids.specs.JsonReads.{NumbersTaken, ReadsAs}
use Rattle.grids.specs.JsonTrees.{cell_tree, members_from, rows_tree, table_tree, tree_at}

flat_cell : (cell : Cell) → depth (cell_tree cell) ≡ 0
flat_cell Nothing = refl
flat_cell (Truth truth) = refl
flat_cell (Number n) = refl
flat_cell (Text text) = refl

flat_at : (row : List Cell) (place : ℕ) → depth (tree_at row place) ≡ 0
flat_at row place =
    elim (slice_get row place) as (λ o. depth (option_map_or cell_tree o null) ≡ 0) [
      | None ↦ refl
      | Some cell ↦ flat_cell cell
    ]

flat_members : (headings : Headings) (place : ℕ) (row : List Cell)
    → members_depth (members_from headings place row) ≡ 0
flat_members [] place row = refl
flat_members (heading ∷ headings) place row = rw (flat_at row place, flat_members headings (suc place) row) refl

shallow : (headings : Headings) (rows : Rows) → items_depth (rows_tree headings rows) ≤ 1
shallow headings [] = omega arith
shallow headings (row ∷ rows) = omega (arith, flat_members headings 0 row.items, shallow headings rows)

-- a text whose tokens are those of a table
reads_as : (text : List ℕ) (ts : List Token) (headings : Headings) (rows : Rows) → text ≡ print ts
    → tokens (print ts) ≡ ts → ts ≡ json_tokens (table_tree headings rows) → ReadsAs text headings rows
reads_as text ts headings rows is reads same =
    let tree = table_tree headings rows in
    let all : tokens text ≡ json_tokens tree ++ [] =
    ap tokens is ∙ reads ∙ same ∙ sym (append-nil (json_tokens tree)) in
    record {
      ordered = ap (λ (ts : List Token). option_and_then (λ p. if_last p.0 p.1) (value max_depth ts)) all
          ∙ ap (option_and_then (λ p. if_last p.0 p.1))
          (value-json_tokens tree max_depth [] (omega (arith, shallow headings rows)));
      taken = ap (λ (ts : List Token).
          option_and_then of_json (option_and_then (λ p. if_last p.0 p.1) (value taken.max_depth ts))) all
          ∙ ap (λ (r : Option (Json × List Token)).
          option_and_then of_json (option_and_then (λ p. if_last p.0 p.1) r))
          (value-json_tokens tree taken.max_depth [] (omega (arith, shallow headings rows)));
    }

-- a text written in turn has the tokens of a table, and is read as it
pub written_reads_as : (text before : List ℕ) (ts first none : List Token) (headings : Headings) (rows : Rows)
    → text ≡ before ++ print ts
    → before ≡ [] → tokens (print ts) ≡ ts → ts ≡ first ++ items_tokens (rows_tree headings rows)
    → first ≡ none ++ (Token.begin_array ∷ []) → none ≡ [] → ReadsAs text headings rows
written_reads_as text before ts first none headings rows is nothing reads rest begun fresh =
    reads_as text ts headings rows (is ∙ ap (λ (b : List ℕ). b ++ print ts) nothing) reads
    (rest ∙ ap (λ (f : List Token). f ++ items_tokens (rows_tree headings rows))
    (begun ∙ ap (λ (n : List Token). n ++ (Token.begin_array ∷ [])) fresh))

-- a number is read back
pub numbers_taken : NumbersTaken
numbers_taken n h = ap (option_map number) (number_of-decimal n h)
