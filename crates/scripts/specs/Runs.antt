-- What is written for a script, and what a run of it has written.
use Rattle.std.specs.Prelude.{◌≡◌, ℕ, List, [], ◌∷◌, ◌++◌, Option, map}
use Rattle.std.specs.List.{AllByRecursion, flat_map}
use Rattle.std.specs.Io.KnownBytes.{Appends, Consumes, IsAtEnd}
use Rattle.rows.specs.Answers.{Passes}
use Rattle.bounds.specs.declared.families.Family.{Family}
use Rattle.bounds.specs.Families.{family_accuracy_checks, family_meaning}
use Rattle.bounds.specs.Meaning.{Meaning}
use Rattle.admission.specs.declared.calls.Call.{Call}
use Rattle.admission.specs.Runs.{answers_to}
use Rattle.streams.specs.declared.failures.Failure.{Failure}
use Rattle.streams.specs.declared.failures.Failure.TheVariants.{Reading, Writing}
use Rattle.scripts.specs.Scripts.{line_feed, without_return, ended_lines, script_lines}
use Rattle.scripts.specs.Sessions.{first_stage, output_from}
use Rattle.scripts.specs.Texts.{answer_text, bound_text, call_text, FitsLine}
use Rattle.scripts.specs.Written.{Begun}
use Rattle.streams.specs.Held.{MayHold}

-- what is written for a script: what is for each of its lines, one after the other
unfoldable pub script_output : List ℕ → List ℕ
script_output bytes = output_from first_stage (script_lines bytes)

-- what is written for the lines that the line feeds of some bytes end
unfoldable pub ended_output : List ℕ → List ℕ
ended_output bytes = output_from first_stage (map without_return (ended_lines [] bytes))

-- a run that has ended well has written what is written for all that the reader held, of which nothing is left
pub record Plays (held left old new : Option (List ℕ)) : Type 0 where
  pub bytes : List ℕ
  pub all : MayHold held bytes
  pub end : IsAtEnd left
  pub written : Appends old new (script_output bytes)

-- where reading has failed, each line that had ended is answered; where writing has, no more is written than what is
-- for the bytes that were read
abbrev pub HasPlayed : Failure → (held left old new : Option (List ℕ)) → Type 0
HasPlayed (Reading e) held left old new =
    (taken : List ℕ) × Consumes held left taken × Appends old new (ended_output taken)
HasPlayed (Writing e) held left old new =
    (taken : List ℕ) × Consumes held left taken × Begun old new (script_output taken)

-- in either case a beginning is written of what is written for all that the reader held
pub record BeginsToPlay (held old new : Option (List ℕ)) : Type 0 where
  pub bytes : List ℕ
  pub all : MayHold held bytes
  pub begun : Begun old new (script_output bytes)

-- lines as bytes: a line feed stands behind each
abbrev pub as_lines : List (List ℕ) → List ℕ
as_lines lines = flat_map (λ line. line ++ line_feed ∷ []) lines

-- for a script that names a bound in its first line and then makes calls, a line each, the answers of the book of a new
-- bench by that bound are written, a line each
abbrev pub AnswersCalls : Meaning → List ℕ → Type 0
AnswersCalls m naming =
    (calls : List Call) → AllByRecursion FitsLine calls
    → script_output (as_lines (naming ∷ map call_text calls)) ≡ as_lines (map answer_text (answers_to m calls))

-- a script is answered as the book's answers by each bound that it can name: by its kind, and an accuracy that passes
abbrev pub CallsAreAnswered : Type 0
CallsAreAnswered =
    (f : Family) (k : ℕ) → Passes (family_accuracy_checks f k) → AnswersCalls (family_meaning f k) (bound_text f k)
