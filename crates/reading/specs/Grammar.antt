-- Which entries may follow one another.
use Rattle.std.specs.Prelude.{IsTrue, ◌≡◌, ℕ, ◌+◌, ◌<◌, List, [], ◌∷◌}
use Rattle.rows.specs.declared.tasks.Row.{Row}
use Rattle.rows.specs.Counting.{is_on_frame}
use Rattle.rows.specs.Times.{most_rows}
use Rattle.rows.specs.declared.verdicts.Finding.{Finding}
use Rattle.leaves.specs.declared.entries.Heading.{Heading}
use Rattle.leaves.specs.declared.entries.Entry.{Entry}
use Rattle.leaves.specs.declared.entries.Entry.TheVariants.{Heading as heading, Row as row, Finding as finding}
use Rattle.leaves.specs.declared.entries.Entry.TheVariants.{End as end}
use Rattle.leaves.specs.Judging.{IsFilable}
use Rattle.reading.specs.declared.phases.Phase.{Phase}
use Rattle.reading.specs.declared.phases.Phase.TheVariants.{Opening, Rows, Findings, Closed}

-- a phase takes findings: n rows and m findings have come
pub data TakesFindings : Phase → Heading → ℕ → ℕ → Type 0 where
  after_rows : {h : Heading} {n : ℕ} → TakesFindings (Rows h n) h n 0
  after_findings : {h : Heading} {n m : ℕ} → TakesFindings (Findings h n m) h n m

-- an entry leads from one phase to the next
pub data Step : Phase → Entry → Phase → Type 0 where
  -- the heading opens the rows
  opens : {h : Heading} → Step Opening (heading h) (Rows h 0)
  -- a row on the frame comes after fewer than a full table
  stands : {h : Heading} {n : ℕ} {r : Row}
      → n < most_rows → IsTrue (is_on_frame h.frame.ticks r) → Step (Rows h n) (row r) (Rows h (n + 1))
  -- a finding that can be filed comes after fewer findings than rows; the first one ends the rows
  finds : {p : Phase} {h : Heading} {n m : ℕ} {f : Finding}
      → TakesFindings p h n m → m < n → IsFilable f → Step p (finding f) (Findings h n (m + 1))
  -- the end comes after as many findings as rows, and tells how many entries came before it
  closes : {p : Phase} {h : Heading} {n m k : ℕ}
      → TakesFindings p h n m → m ≡ n → k ≡ 1 + n + m → Step p (end k) (Closed h n)

-- entries lead from one phase to another, one after the other
pub data Run : Phase → List Entry → Phase → Type 0 where
  stays : {p : Phase} → Run p [] p
  goes : {p q s : Phase} {e : Entry} {es : List Entry} → Step p e q → Run q es s → Run p (e ∷ es) s
