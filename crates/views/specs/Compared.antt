-- Two leaves of one table beside each other, as text.
use Rattle.std.specs.Prelude.{◌≡◌, ℕ, ◌-◌, Bool, true, false, List, [], ◌∷◌, ◌++◌}
use Rattle.std.specs.Prelude.{length, map, Some, None, Option, codes, decimal, nat_le, if◌then◌else◌}
use Rattle.std.specs.List.{enumerate_from, zip}
use Rattle.rows.specs.declared.tasks.Numbers.{Numbers}
use Rattle.rows.specs.Found.{Found}
use Rattle.leaves.specs.Contents.{Contents}
use Rattle.reading.specs.Told.{told_of}
use Rattle.grids.specs.Aligned.{aligned_text}
use Rattle.grids.specs.Cells.{Headings, Rows}
use Rattle.grids.specs.Shown.{dash, shown_text}
use Rattle.grids.specs.CsvFields.{headings_of}
use Rattle.task_tables.specs.Printables.{printable_text}
use Rattle.task_tables.specs.Tasks.{four_fields}
use Rattle.views.specs.Cells.{rest_text}
use Rattle.views.specs.Leaves.{HaveOneTable, HeldBoth}
use Rattle.views.specs.Ranked.{shown_rows}
use Rattle.bounds.specs.Families.{shown_bound}

-- how much later the second of two first rests is than the first, with a minus where it is earlier; a dash where one is
-- missing
abbrev pub later_text : Option ℕ → Option ℕ → List ℕ
later_text (Some one) (Some other) =
    if nat_le one other then decimal (other - one) else shown_text (codes "-" ++ decimal (one - other))
later_text (Some one) None = dash
later_text None other = dash

-- two verdicts part: by one the row meets, and by the other it misses
abbrev pub do_part : Option ℕ → Option ℕ → Bool
do_part (Some one) (Some other) = false
do_part (Some one) None = true
do_part None (Some other) = true
do_part None None = false

-- a row with both findings: its rank and numbers, both first rests, how much later the second is, the points tested by
-- each count, and whether the verdicts part
abbrev pub compared_texts : ℕ → Numbers → Found → Found → List (List ℕ)
compared_texts rank n one other =
    decimal rank ∷ (four_fields n
    ++ rest_text one.rest ∷ rest_text other.rest ∷ later_text one.rest other.rest
    ∷ decimal one.points ∷ decimal other.points
    ∷ (if do_part one.rest other.rest then codes "part" else codes "same") ∷ [])

-- what is told of the rows of two leaves of one table: of each row by its rank, with what each leaf found of it; the
-- first has rank 1
abbrev pub compared_rows : Contents → Contents → List (List (List ℕ))
compared_rows c d =
    let pairs = zip (told_of c) (told_of d) in
    map (λ e. compared_texts e.0 e.1.0.0 e.1.0.1 e.1.1.1) (enumerate_from 1 pairs)

-- the line of a leaf: a mark, its name as it is seen, and its bound
abbrev pub named_line : List ℕ → List ℕ → Contents → List ℕ
named_line mark name c = mark ++ (printable_text name ++ (codes ", " ++ (shown_bound c.heading.bound ++ codes "\n")))

-- the line of the frame, with how many rows there are
abbrev pub frame_line : Contents → List ℕ
frame_line c =
    codes "frame " ++ (decimal c.heading.frame.ticks ++ (codes ", " ++ (decimal (length c.rows) ++ codes " rows\n")))

-- the lines above: both leaves, and the frame
abbrev pub compared_head : List ℕ → List ℕ → Contents → Contents → List ℕ
compared_head a b c d = named_line (codes "A: ") a c ++ (named_line (codes "B: ") b d ++ frame_line c)

-- the columns
abbrev pub compared_columns : List (List ℕ)
compared_columns =
    codes "rank" ∷ codes "work" ∷ codes "deadline" ∷ codes "period" ∷ codes "jitter" ∷ codes "A rest" ∷ codes "B rest"
    ∷ codes "B later by" ∷ codes "A points" ∷ codes "B points" ∷ codes "verdicts" ∷ []

-- a text sets two leaves of these names beside each other: the lines above, a line for the columns and one for each row
-- in rank order, and the line that tells at which ranks the verdicts part
pub record IsComparison (a b : List ℕ) (c d : Contents) (text : List ℕ) : Type 0 where
  pub headings : Headings
  pub rows : Rows
  pub foot : List ℕ
  pub columns : headings_of headings ≡ compared_columns
  pub told : shown_rows rows ≡ compared_rows c d
  pub parts : text ≡ compared_head a b c d ++ (aligned_text headings rows ++ foot)

-- two leaves are of one table, and a text sets them beside each other
pub record AreCompared (a b text : List ℕ) (c d : Contents) : Type 0 where
  pub table : HaveOneTable c d
  pub is_comparison : IsComparison a b c d text

-- what two readers held are such leaves
abbrev pub IsComparisonOf : List ℕ → Option (List ℕ) → List ℕ → Option (List ℕ) → List ℕ → Type 0
IsComparisonOf a one b other text = HeldBoth (AreCompared a b text) one other
