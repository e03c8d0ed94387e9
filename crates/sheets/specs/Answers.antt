-- The answer to a string of bytes: the leaf of the survey of the sheet that they are, or a refusal.
use Rattle.std.specs.Prelude.{◌≡◌, ℕ, ◌+◌, List, [], ◌∷◌, ◌++◌, length, take, Result, MatchResult, nat_lt}
use Rattle.rows.specs.declared.refusals.Refusal.TheVariants.{ShortBuffer}
use Rattle.rows.specs.declared.refusals.Fault.{Fault}
use Rattle.rows.specs.Answers.{Answer, gives, refuses, answer, Check, check, checked}
use Rattle.rows.specs.Lists.{written}
use Rattle.rows.specs.Refusals.{number}
use Rattle.rows.specs.Times.{most_rows}
use Rattle.leaves.specs.Bytes.{four}
use Rattle.leaves.specs.Contents.{Contents, encoding}
use Rattle.leaves.specs.Entries.{row_place, leaf_length}
use Rattle.reading.specs.Whole.{Fits as IsReadAs}
use Rattle.sheets.specs.Tables.{OnSheet, on_sheet}
use Rattle.sheets.specs.Reading.{FitsSheet}
use Rattle.sheets.specs.Surveying.{IsSurveyOf, SurveySays}

-- contents answer bytes that are the sheet of a table, of which they are the survey; a refusal answers bytes that are
-- no sheet and are refused so
abbrev pub Answers : List ℕ → Answer Contents → Type 0
Answers bytes (gives c) = (t : OnSheet) × FitsSheet bytes (gives t) × IsSurveyOf t c
Answers bytes (refuses number at) = FitsSheet bytes (refuses number at)

-- at most one answer answers
abbrev pub AnswersOnce : Type 0
AnswersOnce = (bytes : List ℕ) (a b : Answer Contents) → Answers bytes a → Answers bytes b → a ≡ b

-- the letter of a refusal: X
abbrev pub letter_X : ℕ
letter_X = 88

-- the bytes of an answer: those of the leaf; or X, the number of the refusal and its place
abbrev pub answer_bytes : Answer Contents → List ℕ
answer_bytes (gives c) = encoding c
answer_bytes (refuses refusal at) = letter_X ∷ number refusal ∷ four at

-- no answer is longer than the leaf of a full table
abbrev pub most_answer : ℕ
most_answer = leaf_length most_rows

-- no sheet is longer than that of a full table
abbrev pub most_sheet : ℕ
most_sheet = row_place most_rows

-- how many bytes decide: those of the sheet of a full table, and one more
abbrev pub deciding : ℕ
deciding = most_sheet + 1

-- what answers the first bytes answers all of them
abbrev pub FirstDecide : Type 0
FirstDecide = (bytes : List ℕ) (a : Answer Contents) → Answers (take deciding bytes) a → Answers bytes a

-- what is checked of a buffer of so many bytes before an answer is put into it: short buffer
abbrev pub buffer_checks : Answer Contents → ℕ → List Check
buffer_checks a size = check (nat_lt size (length (answer_bytes a))) ShortBuffer 0 ∷ []

-- an answer is put into a buffer: where there is room, its length is told, and its bytes are written over those of the
-- buffer from the first on; where there is none, that is told, and the buffer is as it was
pub record IsPut (a : Answer Contents) (old new : List ℕ) (r : Result ℕ Fault) : Type 0 where
  pub told : answer (λ n. n) r ≡ checked (buffer_checks a (length old)) (length (answer_bytes a))
  pub bytes : MatchResult r (λ _. new ≡ written old 0 (answer_bytes a)) (λ _. new ≡ old)

-- contents that answer bytes are those of a leaf: a reader accepts the bytes of the answer, of which they are the
-- beginning, and gives these contents; and of every row the finding says what a finding says
pub record IsLeafOf (bytes : List ℕ) (c : Contents) : Type 0 where
  pub accepted : IsReadAs (answer_bytes (gives c)) (gives c)
  pub more : List ℕ
  pub begins : answer_bytes (gives c) ≡ bytes ++ more
  pub says : SurveySays (on_sheet c.heading c.rows)
