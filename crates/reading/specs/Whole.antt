-- What fits a string of bytes as the answer to reading it as a leaf.
use Rattle.std.specs.Prelude.{◌≡◌, ℕ, List, ◌++◌, length}
use Rattle.rows.specs.declared.refusals.Refusal.{Refusal}
use Rattle.rows.specs.Answers.{Answer, gives, refuses, first_refusal}
use Rattle.leaves.specs.declared.entries.Entry.{Entry}
use Rattle.leaves.specs.Contents.{Contents, bytes_of, encoding, IsLawful}
use Rattle.reading.specs.declared.phases.Phase.{Phase}
use Rattle.reading.specs.declared.phases.Phase.TheVariants.{Opening}
use Rattle.reading.specs.Checks.{next_checks}
use Rattle.reading.specs.Grammar.{Run}

-- a refusal fits: entries lead from the opening to some phase, and at the place after them this is the first check
-- that fails
pub record IsRefusedAt (bytes : List ℕ) (number : Refusal) (at : ℕ) : Type 0 where
  pub before : List Entry
  pub phase : Phase
  pub left : List ℕ
  pub split : bytes ≡ bytes_of before ++ left
  pub run : Run Opening before phase
  pub fails : first_refusal (next_checks phase (length (bytes_of before)) left) ≡ refuses number at

-- contents fit: they are lawful, and the bytes are their encoding
abbrev pub Fits : List ℕ → Answer Contents → Type 0
Fits bytes (gives c) = IsLawful c × (bytes ≡ encoding c)
Fits bytes (refuses number at) = IsRefusedAt bytes number at

-- at most one answer fits
abbrev pub FitsOnce : Type 0
FitsOnce = (bytes : List ℕ) (a b : Answer Contents) → Fits bytes a → Fits bytes b → a ≡ b
