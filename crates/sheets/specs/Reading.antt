-- What fits a string of bytes as the answer to reading it as a sheet.
use Rattle.std.specs.Prelude.{◌≡◌, ℕ, ◌||◌, List, [], ◌∷◌, ◌++◌, length, ◌==◌}
use Rattle.rows.specs.declared.refusals.Refusal.{Refusal}
use Rattle.rows.specs.declared.refusals.Refusal.TheVariants.{OutOfTurn}
use Rattle.rows.specs.Answers.{Answer, gives, refuses, Check, check, first_refusal}
use Rattle.leaves.specs.Entries.{letter_A, letter_Z}
use Rattle.reading.specs.declared.phases.Phase.{Phase}
use Rattle.reading.specs.declared.phases.Phase.TheVariants.{Opening, Rows}
use Rattle.reading.specs.Checks.{next_checks}
use Rattle.reading.specs.Phases.{place_of}
use Rattle.sheets.specs.Tables.{OnSheet, IsLawfulSheet, sheet_bytes}

-- the phase of a reader after the sheet of a table
abbrev pub sheet_phase_after : OnSheet → Phase
sheet_phase_after t = Rows t.heading (length t.rows)

-- what is checked in the rows of a sheet, of the bytes that are left: nothing where none is, for a sheet may end there;
-- else out of turn where a finding or an end begins, and then all that is checked there in a leaf
abbrev pub sheet_row_checks : Phase → List ℕ → List Check
sheet_row_checks p [] = []
sheet_row_checks p (k ∷ body) =
    check (k == letter_A || k == letter_Z) OutOfTurn (place_of p)
    ∷ next_checks p (place_of p) (k ∷ body)

-- a refusal fits: it is that of the first check that fails, before the heading as in a leaf, or else in the rows,
-- after the sheet of some lawful table
pub data IsSheetRefusedAt (bytes : List ℕ) (number : Refusal) (at : ℕ) : Type 0 where
  before_heading : first_refusal (next_checks Opening 0 bytes) ≡ refuses number at → IsSheetRefusedAt bytes number at
  in_rows : (t : OnSheet) (left : List ℕ) → IsLawfulSheet t → bytes ≡ sheet_bytes t ++ left
      → first_refusal (sheet_row_checks (sheet_phase_after t) left) ≡ refuses number at
      → IsSheetRefusedAt bytes number at

-- a table fits: it is lawful, and the bytes are its sheet
abbrev pub FitsSheet : List ℕ → Answer OnSheet → Type 0
FitsSheet bytes (gives t) = IsLawfulSheet t × (bytes ≡ sheet_bytes t)
FitsSheet bytes (refuses number at) = IsSheetRefusedAt bytes number at

-- at most one answer fits
abbrev pub FitsOneSheet : Type 0
FitsOneSheet = (bytes : List ℕ) (a b : Answer OnSheet) → FitsSheet bytes a → FitsSheet bytes b → a ≡ b
