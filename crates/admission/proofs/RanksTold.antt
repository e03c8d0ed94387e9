-- A refusal of a bench that tells no rank tells 0.
use Rattle.std.proofs.Common.{◌≡◌, ℕ, Bool, true, false, List, [], ◌∷◌, Some, None, Option, refl, sym, ap, ◌∙◌}
use Rattle.std.specs.List.{AllByRecursion}
use Rattle.rows.specs.declared.refusals.Refusal.{Refusal}
use Rattle.rows.specs.declared.refusals.Refusal.TheVariants.{BadFrame, StandingRows, IdleRow, NoWindow, LateDeadline}
use Rattle.rows.specs.declared.refusals.Refusal.TheVariants.{LongPeriod, OffFrame, FullTable, NoRank}
use Rattle.rows.specs.Answers.{Check, check, checked, refuses, refuses_at}
use Rattle.rows.specs.Books.{Book}
use Rattle.bounds.specs.Meaning.{Meaning}
use Rattle.admission.specs.declared.calls.Call.{Call}
use Rattle.admission.specs.declared.calls.Call.TheVariants.{Frame, Admit, Dismiss, Inquire}
use Rattle.admission.specs.Books.{checks_of, told}
use Rattle.admission.specs.Promises.{OthersTellZero}
use Rattle.admission.specs.Replies.{Told, tells_rank}
use Rattle.admission.proofs.Steps.{step_answers}

-- a check whose refusal tells no rank tells 0, if it tells a position
abbrev TellsZero : Check → Type 0
TellsZero c = (at : ℕ) → c.at ≡ Some at → tells_rank c.refusal ≡ false → at ≡ 0

check_zero : (wrong : Bool) (refusal : Refusal) → TellsZero (check wrong refusal 0)
check_zero true refusal at told none = cc
check_zero false refusal at told none = cc

-- so what such checks refuse
checks_zero : (cs : List Check) → AllByRecursion TellsZero cs → (r : Refusal) (at : ℕ) (x : Told)
    → refuses r at ≡ checked cs x → tells_rank r ≡ false → at ≡ 0
checks_zero [] zero r at x refused none = cc
checks_zero (c ∷ cs) zero r at x refused none = by c.at refl refused (λ more. checks_zero cs zero.1 r at x more none)
  where
    by : (o : Option ℕ) → c.at ≡ o → refuses r at ≡ refuses_at c.refusal o (checked cs x)
        → (refuses r at ≡ checked cs x → at ≡ 0) → at ≡ 0
    by (Some p) is here later =
        let same : r ≡ c.refusal = cc in
        let place : at ≡ p = cc in
        place ∙ zero.0 p is (ap tells_rank (sym same) ∙ none)
    by None is here later = later here

-- the checks of every call are such: only those of misses tell another position
calls_zero : (m : Meaning) (b : Book) (c : Call) → AllByRecursion TellsZero (checks_of m b c)
calls_zero m b (Frame h) = (check_zero _ BadFrame, (check_zero _ StandingRows, tt))
calls_zero m b (Admit rank n) = (
  check_zero _ IdleRow,
  (
    check_zero _ NoWindow,
    (
      check_zero _ LateDeadline,
      (
        check_zero _ LongPeriod,
        (
          check_zero _ OffFrame,
          (check_zero _ FullTable, (check_zero _ NoRank, ((λ at told none. cc), ((λ at told none. cc), tt)))),
        ),
      ),
    ),
  ),
)
calls_zero m b (Dismiss rank) = (check_zero _ NoRank, tt)
calls_zero m b (Inquire rank) = (check_zero _ NoRank, tt)

pub others_tell_zero : OthersTellZero
others_tell_zero m b c r at refused none =
    checks_zero (checks_of m b c) (calls_zero m b c) r at (told m b c) (sym refused ∙ step_answers m b c) none
