-- What is told of a leaf as people read it.
use Rattle.std.specs.Prelude.{◌≡◌, ℕ, ◌==◌, List, [], ◌∷◌, ◌++◌, length, codes, decimal, if◌then◌else◌}
use Rattle.rows.specs.declared.refusals.Refusal.{Refusal}
use Rattle.rows.specs.Refusals.{number, words}
use Rattle.bounds.specs.Families.{shown_bound}
use Rattle.leaves.specs.Contents.{Contents}
use Rattle.grids.specs.Aligned.{aligned_text}
use Rattle.grids.specs.Cells.{Headings, Rows}
use Rattle.grids.specs.CsvFields.{headings_of}
use Rattle.task_tables.specs.Printables.{printable_text}
use Rattle.views.specs.Cells.{leaf_texts}
use Rattle.views.specs.Ranked.{shown_rows, told_rows}

-- the line above a leaf: its name as it is seen, its bound, its frame, and how many rows it has
abbrev pub leaf_head : List ℕ → Contents → List ℕ
leaf_head name c =
    printable_text name
    ++ (codes ": " ++ (shown_bound c.heading.bound ++ (codes ", frame " ++ (decimal c.heading.frame.ticks
    ++ (codes ", " ++ (decimal (length c.rows) ++ codes " rows\n"))))))

-- the columns below it
abbrev pub leaf_columns : List (List ℕ)
leaf_columns =
    codes "rank" ∷ codes "work" ∷ codes "deadline" ∷ codes "period" ∷ codes "jitter"
    ∷ codes "first rest" ∷ codes "response" ∷ codes "points" ∷ []

-- a text is that of a leaf: the line above it, a line for the columns and one for each row in rank order
pub record IsLeafText (name : List ℕ) (c : Contents) (text : List ℕ) : Type 0 where
  pub headings : Headings
  pub rows : Rows
  pub columns : headings_of headings ≡ leaf_columns
  pub told : shown_rows rows ≡ told_rows leaf_texts c
  pub parts : text ≡ leaf_head name c ++ aligned_text headings rows

-- the text of a damaged leaf: its name as it is seen, the refusal, its place and the bytes around it
abbrev pub damage_text : List ℕ → Refusal → ℕ → List ℕ → List ℕ
damage_text name refusal at around =
    printable_text name ++ (codes ": refused " ++ (decimal (number refusal) ++ (codes " " ++ (words refusal
    ++ (codes " at byte " ++ (decimal at ++ (codes ", around it " ++ around)))))))

-- a text with an empty line behind it, where there is one
abbrev pub parted : List ℕ → List ℕ
parted text = if length text == 0 then text else text ++ 10 ∷ []
