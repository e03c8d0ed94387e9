-- The table with all counts side by side, as text.
use Rattle.std.specs.Prelude.{◌≡◌, ℕ, zero, suc, ◌+◌, List, [], ◌∷◌, ◌++◌, length, map, Option, Some, None, codes}
use Rattle.std.specs.Prelude.{decimal, filter_map, flat_map, slice_get, slice_index_or}
use Rattle.rows.specs.declared.tasks.Numbers.{Numbers}
use Rattle.rows.specs.Judging.{plain}
use Rattle.rows.specs.Found.{Found}
use Rattle.bounds.specs.declared.families.Family.{Family}
use Rattle.bounds.specs.Families.{family_shown, family_word}
use Rattle.filings.specs.Filings.{Filed, filed_findings}
use Rattle.task_tables.specs.Tables.{table_names}
use Rattle.grids.specs.Aligned.{aligned_text}
use Rattle.grids.specs.Cells.{Headings, Rows}
use Rattle.grids.specs.CsvFields.{headings_of}
use Rattle.views.specs.Cells.{counted_texts}
use Rattle.views.specs.Counted.{CountedTable, by_bounds, in_exact_steps}
use Rattle.views.specs.Ranked.{shown_rows}

-- what counts found of the row at a place, counted from 0: one finding by each of them that has so many rows
abbrev pub found_at : ℕ → List Filed → List Found
found_at i counts = filter_map (λ f. slice_get (filed_findings f) i) counts

-- what is told of a row, where there is one and exact steps found something, with what bounds found
abbrev pub counts_told : ℕ → List ℕ → Option Numbers → Option Found → List Found → List (List ℕ)
counts_told rank name (Some n) (Some exact) bounded = counted_texts rank name n exact bounded
counts_told rank name None exact bounded = []
counts_told rank name (Some n) None bounded = []

-- what is told of the row at a place, counted from 0
abbrev pub counts_told_at : ℕ → CountedTable → List (List ℕ)
counts_told_at i c =
    counts_told (i + 1) (slice_index_or (table_names c.table) i []) (slice_get (map plain c.rows) i)
    (slice_get (filed_findings (in_exact_steps c)) i) (found_at i (by_bounds c))

-- what is told of the first rows, in rank order
abbrev pub first_told : ℕ → CountedTable → List (List (List ℕ))
first_told zero c = []
first_told (suc i) c = first_told i c ++ counts_told_at i c ∷ []

-- the columns of the first rests by a bound of a kind, by the word of the kind
abbrev pub rest_columns : Family → List (List ℕ)
rest_columns f = (family_word f ++ codes " rest") ∷ codes "gap" ∷ []

-- the column of the points tested by it
abbrev pub points_column : Family → List ℕ
points_column f = family_word f ++ codes " points"

-- the columns of the table of counts by bounds of these kinds
abbrev pub count_columns : List Family → List (List ℕ)
count_columns families =
    codes "rank" ∷ codes "name" ∷ codes "C" ∷ codes "D" ∷ codes "T" ∷ codes "J"
    ∷ codes "exact rest" ∷ codes "response" ∷ codes "slack"
    ∷ (flat_map rest_columns families ++ codes "exact points" ∷ map points_column families)

-- the kinds of the bounds of a table that was counted
abbrev pub kinds_of : CountedTable → List Family
kinds_of c = map (λ b. b.0) c.bounds

-- a bound as the line above the columns tells it, behind what stands before
abbrev pub bound_part : Family × ℕ → List ℕ
bound_part b = codes ", " ++ family_shown b.0 b.1

-- the line above them: the frame and the bounds
abbrev pub head_text : CountedTable → List ℕ
head_text c = codes "frame " ++ (decimal c.frame.ticks ++ (flat_map bound_part c.bounds ++ codes "\n"))

-- a text is that of a table: the frame and the bounds, a line for the columns and one for each row in rank order, and
-- what stands below them
pub record IsTableText (c : CountedTable) (text : List ℕ) : Type 0 where
  pub headings : Headings
  pub rows : Rows
  pub foot : List ℕ
  pub columns : headings_of headings ≡ count_columns (kinds_of c)
  pub told : shown_rows rows ≡ first_told (length c.rows) c
  pub parts : text ≡ head_text c ++ (aligned_text headings rows ++ foot)
