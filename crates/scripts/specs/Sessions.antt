-- What the lines of a script do, and what is written for them.
use Rattle.std.specs.Prelude.{ℕ, ◌+◌, ◌-◌, ◌^◌, Bool, true, false, List, [], ◌∷◌, ◌++◌, min}
use Rattle.rows.specs.Answers.{Answer, gives, refuses, checked}
use Rattle.rows.specs.Books.{Book}
use Rattle.bounds.specs.Families.{family_accuracy_checks, family_meaning}
use Rattle.bounds.specs.Meaning.{Meaning}
use Rattle.bounds.specs.Values.{meaning_of}
use Rattle.admission.specs.Books.{first_book, step}
use Rattle.admission.specs.Replies.{Told, answer_of}
use Rattle.scripts.specs.declared.expecting.ExpectedWords.{ExpectedWords}
use Rattle.scripts.specs.declared.lines.ScriptLine.{ScriptLine}
use Rattle.scripts.specs.declared.lines.ScriptLine.TheVariants.{Bound, Call, NoCall}
use Rattle.scripts.specs.declared.session.Remark.{Remark}
use Rattle.scripts.specs.declared.session.Remark.TheVariants as remark
use Rattle.scripts.specs.declared.session.Session.{Session}
use Rattle.scripts.specs.declared.session.Session.TheVariants.{Unnamed, Named}
use Rattle.scripts.specs.Lines.{line_of}
use Rattle.scripts.specs.Scripts.{line_feed}
use Rattle.scripts.specs.Texts.{answer_text, no_call_text}

-- what a script has come to: no bound is named yet; or one is, by what it means, and the calls have come to a book
pub data State : Type 0 where
  unnamed : State
  named : Meaning → Book → State

-- what there is to write for a line: nothing, the answer to a call, or what was expected in its place
pub data Reaction : Type 0 where
  silent : Reaction
  answers : Answer Told → Reaction
  no_call : ExpectedWords → Reaction

-- a bound has been named
abbrev pub is_named : State → Bool
is_named unnamed = false
is_named (named m b) = true

-- the bound that a line names has a meaning, by which a new bench counts; or it is refused, and none is named
abbrev pub begins_by : Answer Meaning → State × Reaction
begins_by (gives m) = (named m first_book, silent)
begins_by (refuses r at) = (unnamed, answers (refuses r at))

-- a line before a bound is named: it may name one, on whose new bench the calls are played then. One that is passed
-- over does nothing
abbrev pub naming : ScriptLine → State × Reaction
naming (Bound f k) = begins_by (checked (family_accuracy_checks f k) (family_meaning f k))
naming (NoCall expected) = (unnamed, no_call expected)
naming _ = (unnamed, silent)

-- a line afterwards: it may be a call, which the book answers. One that is passed over does nothing
abbrev pub calling : Meaning → Book → ScriptLine → State × Reaction
calling m b (Call c) = (named m (step m b c).0, answers (step m b c).1)
calling m b (NoCall expected) = (named m b, no_call expected)
calling m b _ = (named m b, silent)

-- what a line does in either state: the state that it comes to, and what there is to write for it
abbrev pub heard : State → ScriptLine → State × Reaction
heard unnamed line = naming line
heard (named m b) line = calling m b line

-- what is written for a line of some number
abbrev pub reaction_text : ℕ → Reaction → List ℕ
reaction_text n silent = []
reaction_text n (answers a) = answer_text a ++ line_feed ∷ []
reaction_text n (no_call expected) = no_call_text n expected ++ line_feed ∷ []

-- how far a script has been read: the number of the last line, 0 where there is none, and what it has come to
pub record Stage : Type 0 where
  pub number : ℕ
  pub state : State

-- before the first line
abbrev pub first_stage : Stage
first_stage = record { number = 0; state = unnamed }

-- the number of the line behind one of some number: the next, but none is larger than 2^64 - 1
abbrev pub next_number : ℕ → ℕ
next_number n = min (n + 1) (2 ^ 64 - 1)

-- what a line does at a stage, by its bytes
abbrev pub heard_at : Stage → List ℕ → State × Reaction
heard_at s line = heard s.state (line_of (is_named s.state) line)

-- the stage behind a line
abbrev pub stage_behind : Stage → List ℕ → Stage
stage_behind s line = record { number = next_number s.number; state = (heard_at s line).0 }

-- what is written for a line
abbrev pub written_for : Stage → List ℕ → List ℕ
written_for s line = reaction_text (next_number s.number) (heard_at s line).1

-- what is written for lines, one after the other
abbrev pub output_from : Stage → List (List ℕ) → List ℕ
output_from s [] = []
output_from s (line ∷ lines) = written_for s line ++ output_from (stage_behind s line) lines

-- the state that a session is in
abbrev pub state_of : Session → State
state_of Unnamed = unnamed
state_of (Named b) = named (meaning_of b.bound) b.book

-- what a remark has to write
abbrev pub reaction_of : Remark → Reaction
reaction_of remark.Silence = silent
reaction_of (remark.Answer reply) = answers (answer_of reply)
reaction_of (remark.NoCall expected) = no_call expected
