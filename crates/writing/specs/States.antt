-- Where a writer is: the phase in which a reader of what it has filed would be.
use Rattle.std.specs.Prelude.{◌≡◌, ℕ, zero, suc, ◌≤◌}
use Rattle.rows.specs.Times.{most_rows}
use Rattle.leaves.specs.declared.entries.Heading.{Heading}
use Rattle.reading.specs.declared.phases.Phase.{Phase}
use Rattle.reading.specs.declared.phases.Phase.TheVariants.{Rows, Findings, Closed}
use Rattle.reading.specs.Grammar.{TakesFindings}
use Rattle.reading.specs.Phases.{IsSound}

-- the phase after a heading, so many rows and so many findings: while no finding has come it is still the rows
abbrev pub phase_after : Heading → ℕ → ℕ → Phase
phase_after h n zero = Rows h n
phase_after h n (suc m) = Findings h n (suc m)

-- a writer takes rows: no more have come than a table may have
pub record IsInRows (p : Phase) : Type 0 where
  pub heading : Heading
  pub rows : ℕ
  pub is : p ≡ Rows heading rows
  pub few : rows ≤ most_rows

-- a writer takes findings: no more have come than rows
pub record IsInFindings (p : Phase) : Type 0 where
  pub heading : Heading
  pub rows : ℕ
  pub findings : ℕ
  pub takes : TakesFindings p heading rows findings
  pub sound : IsSound p

-- a leaf is closed
pub record IsFinished (p : Phase) : Type 0 where
  pub heading : Heading
  pub rows : ℕ
  pub is : p ≡ Closed heading rows
  pub few : rows ≤ most_rows
