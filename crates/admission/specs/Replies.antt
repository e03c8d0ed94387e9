-- What a bench replies to a call. A bench is a table on which tasks arrive and leave.
use Rattle.std.specs.Prelude.{Bool, true, false, Ok, Err, Result}
use Rattle.rows.specs.declared.refusals.Fault.{Fault}
use Rattle.rows.specs.declared.refusals.Refusal.{Refusal}
use Rattle.rows.specs.declared.refusals.Refusal.TheVariants.{Overload, NewcomerOverload}
use Rattle.rows.specs.declared.tasks.Numbers.{Numbers}
use Rattle.rows.specs.declared.tasks.Row.{Row}
use Rattle.rows.specs.Answers.{Answer, gives, refuses}
use Rattle.rows.specs.Judging.{plain}
use Rattle.rows.specs.declared.verdicts.Finding.{Finding}
use Rattle.rows.specs.Found.{Found, tells}
use Rattle.admission.specs.declared.calls.Reply.{Reply}
use Rattle.admission.specs.declared.calls.Reply.TheVariants.{Done, Found as FoundRow, Refused}

-- what is told where nothing is refused: that the call is done, or a row by its four numbers, with its finding
pub data Told : Type 0 where
  done : Told
  row_found : Numbers → Found → Told

-- a refusal of a bench tells a rank: newcomer overload does, the newcomer's own, and overload, the smallest at which a
-- row that stood would miss; every other one tells 0
abbrev pub tells_rank : Refusal → Bool
tells_rank NewcomerOverload = true
tells_rank Overload = true
tells_rank _ = false

-- the answer that a reply is, in numbers: what is told, or the refusal and the rank that it tells
abbrev pub answer_of : Reply → Answer Told
answer_of Done = gives done
answer_of (FoundRow row finding) = gives (row_found (plain row) (tells finding))
answer_of (Refused fault) = refuses fault.refusal fault.at

-- the reply that the result of a call is, where it has nothing to tell but that it is done
abbrev pub as_done : Result (Unit {0}) Fault → Reply
as_done (Ok u) = Done
as_done (Err fault) = Refused fault

-- the reply that a result with a row and its finding is
abbrev pub as_found : Result (Row × Finding) Fault → Reply
as_found (Ok (row, finding)) = FoundRow row finding
as_found (Err fault) = Refused fault

-- what holds where a reply refuses
abbrev pub IfRefused : Reply → Type 0 → Type 0
IfRefused (Refused fault) p = p
IfRefused Done p = Unit {0}
IfRefused (FoundRow row finding) p = Unit {0}
