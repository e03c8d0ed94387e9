-- What is written: calls, and the answers to lines, each as the bytes of a line without its end.
use Rattle.std.specs.Prelude.{◌≡◌, ℕ, ◌^◌, ◌<◌, false, List, [], ◌++◌, Option, Some, None, codes, decimal}
use Rattle.std.specs.Prelude.{if◌then◌else◌}
use Rattle.std.specs.List.{join_by}
use Rattle.rows.specs.declared.refusals.Refusal.{Refusal}
use Rattle.rows.specs.declared.tasks.Numbers.{Numbers}
use Rattle.rows.specs.Answers.{Answer, gives, refuses}
use Rattle.rows.specs.Refusals.{number, words}
use Rattle.bounds.specs.declared.families.Family.{Family}
use Rattle.bounds.specs.Families.{family_word, has_accuracies}
use Rattle.admission.specs.declared.calls.Call.{Call}
use Rattle.admission.specs.declared.calls.Call.TheVariants.{Frame, Admit, Dismiss, Inquire}
use Rattle.admission.specs.Replies.{Told, done, row_found, tells_rank}
use Rattle.scripts.specs.declared.expecting.ExpectedWords.{ExpectedWords}
use Rattle.scripts.specs.declared.expecting.ExpectedWords.TheVariants.{ShortLine, Bound, CallName, Form, Number}
use Rattle.scripts.specs.Forms.{field_text, form_text, forms_once}

-- four numbers, with blanks between them
abbrev pub numbers_text : Numbers → List ℕ
numbers_text n =
    decimal n.work
    ++ (codes " " ++ (decimal n.deadline ++ (codes " " ++ (decimal n.period ++ (codes " " ++ decimal n.jitter)))))

-- the line that makes a call
abbrev pub call_text : Call → List ℕ
call_text (Frame h) = codes "frame " ++ decimal h.ticks
call_text (Admit rank n) = codes "admit " ++ (decimal rank ++ (codes " " ++ numbers_text n))
call_text (Dismiss rank) = codes "dismiss " ++ decimal rank
call_text (Inquire rank) = codes "inquire " ++ decimal rank

-- the line that names a bound, by its kind and an accuracy, which is told where there is one of the kind for each
abbrev pub bound_text : Family → ℕ → List ℕ
bound_text f k = if has_accuracies f then family_word f ++ (codes " " ++ decimal k) else family_word f

-- an accuracy stands in such a line: it has 32 bits, and is 0 where none is told
pub record FitsBound (f : Family) (k : ℕ) : Type 0 where
  pub small : k < 2 ^ 32
  pub told : has_accuracies f ≡ false → k ≡ 0

-- four numbers have 32 bits each
pub record FitNumbers (n : Numbers) : Type 0 where
  pub work : n.work < 2 ^ 32
  pub deadline : n.deadline < 2 ^ 32
  pub period : n.period < 2 ^ 32
  pub jitter : n.jitter < 2 ^ 32

-- every number of a call has 32 bits, its rank too
abbrev pub FitsLine : Call → Type 0
FitsLine (Frame h) = h.ticks < 2 ^ 32
FitsLine (Admit rank n) = (rank < 2 ^ 32) × FitNumbers n
FitsLine (Dismiss rank) = rank < 2 ^ 32
FitsLine (Inquire rank) = rank < 2 ^ 32

-- what is told of a row: that it meets, and its first rest, or that it misses; and the points tested
abbrev pub finding_text : Option ℕ → ℕ → List ℕ
finding_text (Some rest) points = codes " meets " ++ (decimal rest ++ (codes " points " ++ decimal points))
finding_text None points = codes " misses points " ++ decimal points

-- the rank that a refusal tells, if it tells one
abbrev pub rank_text : Refusal → ℕ → List ℕ
rank_text r at = if tells_rank r then codes " at rank " ++ decimal at else []

-- the line that answers a call
abbrev pub answer_text : Answer Told → List ℕ
answer_text (gives done) = codes "done"
answer_text (gives (row_found n f)) = codes "row " ++ (numbers_text n ++ finding_text f.rest f.points)
answer_text (refuses r at) = codes "refused " ++ (decimal (number r) ++ (codes " " ++ (words r ++ rank_text r at)))

-- what was expected where a line is no call: where no bound is named yet, any form that names one
abbrev pub expected_text : ExpectedWords → List ℕ
expected_text ShortLine = codes "a line of at most 128 bytes"
expected_text Bound = join_by form_text (codes " or ") (forms_once false)
expected_text CallName = codes "frame, admit, dismiss or inquire"
expected_text (Form form) = form_text form
expected_text (Number field) = codes "a number from 0 to 4294967295 for " ++ field_text field

-- the line that answers one that is no call, by its number
abbrev pub no_call_text : ℕ → ExpectedWords → List ℕ
no_call_text line expected =
    codes "not a call at line " ++ (decimal line ++ (codes ": expected " ++ expected_text expected))
