-- What is kept of the rows above while a table is counted.
use Rattle.std.specs.Prelude.{◌≡◌, ℕ, ◌<◌, false, List, [], get_or, length, map, replicate, take}
use Rattle.rows.specs.declared.tasks.Row.{Row}
use Rattle.rows.specs.Times.{most_rows}
use Rattle.bounds.specs.declared.questions.OnFrame.{OnFrame}
use Rattle.bounds.specs.Meaning.{Meaning}
use Rattle.bounds.specs.Questions.{frame_under, row_on}
use Rattle.findings.specs.declared.preparing.Prepared.{Prepared}
use Rattle.bounds.specs.Marks.{Marks}
use Rattle.findings.specs.Counting.{near, next_after}
use Rattle.findings.specs.Points.{is_bend}
use Rattle.findings.specs.Lines.{LiesUnder}

-- the list has the rows on the frame, each at its place
abbrev pub StandInTurn : ℕ → List Row → List OnFrame → Type 0
StandInTurn h rows xs = (k : ℕ) (s : OnFrame) (r : Row) → k < length rows
    → (frame_under (get_or xs k s) ≡ h) × (row_on (get_or xs k s) ≡ get_or rows k r)

-- it is kept of these rows: they stand in turn on their frame, a line lies below their steps, their corners up to the
-- near instant are flagged, and the list has the next one of each past that
pub record Prepares (m : Meaning) (h : ℕ) (rows : List Row) (p : Prepared) : Type 0 where
  pub size : length p.rows ≡ most_rows
  pub stand : StandInTurn h rows p.rows
  pub lies : LiesUnder h rows p.line.slope p.line.height
  pub marks : Marks (is_bend m rows) 0 (replicate near false) p.flags
  pub places : length p.nexts ≡ most_rows
  pub ahead : take (length rows) p.nexts ≡ map (next_after m near) rows

-- nothing is kept yet: it is kept of no rows, whatever the bound and the frame
abbrev pub KeepsNothing : Prepared → Type 0
KeepsNothing p = (m : Meaning) (h : ℕ) → Prepares m h [] p
