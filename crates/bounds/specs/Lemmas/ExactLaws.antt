-- The laws of the exact steps.
use Rattle.std.specs.Prelude.{◌≡◌, ℕ, ◌+◌, ◌-◌, ◌*◌, ◌≤◌, false, refl}
use Rattle.std.proofs.Common.{arith}
use Rattle.std.proofs.lemmas.Nat.{mul-le}
use Rattle.rows.specs.declared.tasks.Row.{Row}
use Rattle.rows.specs.Times.{horizon}
use Rattle.rows.specs.Counting.{steps, is_rise}
use Rattle.bounds.specs.Laws.{Laws}
use Rattle.bounds.specs.Supplied.{exact_steps}
use Rattle.bounds.specs.Lemmas.Instants.{count_le}
use Rattle.rows.proofs.Rising.{steps_grow, steps_stay}

-- exact steps bend upward only where they rise
pub exact_bends : (h : ℕ) (r : Row) (t : ℕ) → 1 ≤ t → is_rise r t ≡ false
    → h * steps r (t - 1) + h * steps r (t + 1) ≤ 2 * (h * steps r t)
exact_bends h r t late rest =
    let before = mul-le h (steps r (t - 1)) h (steps r t) (omega arith) (steps_grow r (t - 1) t (omega arith)) in
    rw (steps_stay r t late rest) (omega arith)

-- the exact steps keep every law of a bound
pub exact_laws : Laws exact_steps
exact_laws =
    record {
      covers = λ h r t ask. omega arith;
      close = λ h r t ask. omega arith;
      some_accuracy = omega arith;
      most_accuracy = omega arith;
      bends = λ h r t ask late before rest. exact_bends h r t late rest;
      starts = λ r. refl;
      few = λ r. count_le (is_rise r) horizon;
    }
