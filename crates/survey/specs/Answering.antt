-- The answer to what a reader holds.
use Rattle.std.specs.Prelude.{◌≡◌, ℕ, List, Option}
use Rattle.rows.specs.Answers.{Answer}
use Rattle.leaves.specs.Contents.{Contents}
use Rattle.sheets.specs.Answers.{Answers, answer_bytes}
use Rattle.streams.specs.Held.{MayHold}

-- a string of bytes is the answer to another, by docs/FORMAT.md
abbrev pub IsAnswerTo : List ℕ → List ℕ → Type 0
IsAnswerTo bytes out = (a : Answer Contents) × Answers bytes a × (out ≡ answer_bytes a)

-- a string of bytes is the answer to all that a reader holds
pub record IsAnswerToHeld (held : Option (List ℕ)) (out : List ℕ) : Type 0 where
  pub bytes : List ℕ
  pub all : MayHold held bytes
  pub answered : IsAnswerTo bytes out
