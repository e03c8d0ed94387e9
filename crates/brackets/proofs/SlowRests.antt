-- What a first rest on a slower processor says.
use Rattle.std.proofs.Common.{◌≡◌, ℕ, ◌+◌, ◌*◌, List, Option, sym, ap, ◌∙◌, lt_of_mul-lt-mul_right, subst, arith}
use Rattle.std.proofs.lemmas.Bool.{le-leb, leb-true}
use Rattle.rows.specs.declared.tasks.Row.{Row}
use Rattle.rows.specs.Counting.{window}
use Rattle.bounds.specs.Lemmas.Instants.{least_up_to}
use Rattle.findings.specs.Exact.{exact_demand, is_exact_rest, exact_rest}
use Rattle.findings.specs.Findings.{row_finding}
use Rattle.brackets.specs.Bracketing.{IsNoLater, is_slow_rest, slow_rest}
use Rattle.brackets.specs.Slower.{IsFirstSlowRest, BoundsAreNoLater}
use Rattle.brackets.specs.Speeds.{rest_at_speed}
use Rattle.brackets.proofs.Bracket.{brackets}
use Rattle.brackets.proofs.Earlier.{no_later}

-- the first rest at the lower speed says what it says
first_says : (k : ℕ) (r : Row) (above : List Row) → IsFirstSlowRest k r above (slow_rest k r above)
unfolding rest_at_speed
first_says k r above = least_up_to (is_slow_rest k r above) (window r)

-- and so does every rest that it is
pub first_slow_rest : (k : ℕ) (r : Row) (above : List Row) (o : Option ℕ) → o ≡ slow_rest k r above
    → IsFirstSlowRest k r above o
first_slow_rest k r above o is = subst (IsFirstSlowRest k r above) (sym is) (first_says k r above)

-- it comes no earlier than the one at full speed
pub exact_no_later : (k : ℕ) (r : Row) (above : List Row) → IsNoLater (exact_rest r above) (slow_rest k r above)
unfolding exact_rest rest_at_speed
exact_no_later k r above =
    no_later (is_exact_rest r above) (is_slow_rest k r above) (window r)
    (λ t _ _ rest.
    let slow = leb-true ((k + 1) * exact_demand r above t) (k * t) rest in
    let below = lt_of_mul-lt-mul_right (k + 1) {m = exact_demand r above t} {n = t + 1} (omega arith) in
    le-leb (exact_demand r above t) t (omega arith))

-- and no earlier than by any bound of that accuracy
pub bounds_no_later : (k : ℕ) (r : Row) (above : List Row) (o : Option ℕ) → o ≡ slow_rest k r above
    → BoundsAreNoLater k r above o
bounds_no_later k r above o is m h laws same stands =
    subst (IsNoLater (row_finding m h r above).rest) (ap (λ a. slow_rest a r above) same ∙ sym is)
    (brackets laws h r above stands).slow

-- what the answer says
pub ruleset slow_rest_says = (first_slow_rest, exact_no_later, bounds_no_later)
