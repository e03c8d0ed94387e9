-- What is told of the rows of a leaf, rank by rank.
use Rattle.std.specs.Prelude.{ℕ, ◌==◌, List, [], ◌∷◌, length, map, if◌then◌else◌}
use Rattle.std.specs.List.{enumerate_from}
use Rattle.rows.specs.declared.tasks.Numbers.{Numbers}
use Rattle.rows.specs.Found.{Found}
use Rattle.leaves.specs.Contents.{Contents}
use Rattle.reading.specs.Told.{told_of}
use Rattle.grids.specs.Cells.{Rows}
use Rattle.grids.specs.Shown.{shown_of}
use Rattle.grids.specs.CsvFields.{field_of}
use Rattle.views.specs.Cells.{heading_record_fields, record_fields}

-- the rows of a table as people read them
abbrev pub shown_rows : Rows → List (List (List ℕ))
shown_rows rows = map (λ row. map shown_of row.items) rows

-- rows of cells as programs read them
abbrev pub field_rows : Rows → List (List (List ℕ))
field_rows rows = map (λ row. map field_of row.items) rows

-- what is told of each row of a leaf with its finding, by its rank; the first has rank 1
abbrev pub told_rows : {X : Type 0} → (ℕ → Numbers → Found → X) → Contents → List X
told_rows tell c = map (λ e. tell e.0 e.1.0 e.1.1) (enumerate_from 1 (told_of c))

-- the records of a leaf: one for each row, or the one that tells the heading where there is no row
abbrev pub leaf_records : List ℕ → Contents → List (List (List ℕ))
leaf_records name c =
    if length c.rows == 0 then heading_record_fields name c.heading ∷ []
    else told_rows (record_fields name c.heading) c
