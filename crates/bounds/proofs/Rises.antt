-- The next rise of a row's steps.
use Rattle.std.proofs.Common.{◌≡◌, true, ◌+◌, ◌-◌, ◌*◌, ◌/◌, ◌<◌, ℕ, arith}
use Rattle.std.proofs.lemmas.Nat.{div-add-mod', mod_below}
use Rattle.rows.specs.declared.tasks.Row.{Row}
use Rattle.rows.specs.Counting.{is_rise}
use Rattle.rows.proofs.Rising.{at_multiple, multiple_rises, no_rise}
use Rattle.bounds.specs.Instants.{IsFirst}

-- the first rise after s is at the next multiple of the period
pub first_rise : (r : Row) (s : ℕ)
    → IsFirst (is_rise r) s (s + r.period) (((s + r.jitter) / r.period + 1) * r.period - r.jitter)
first_rise r s =
    let b = (s + r.jitter) / r.period in
    let t = (b + 1) * r.period - r.jitter in
    let split = div-add-mod' (s + r.jitter) r.period in
    let low = mod_below (s + r.jitter) r.period (omega arith) in
    record {
      after = omega arith;
      within = omega arith;
      holds = multiple_rises r t (b + 1) (omega arith) (omega arith);
      none = λ i from to. no_rise r i b (omega arith) (omega arith);
    }

-- after a rise the next one is a period later, at u
pub period_later : (r : Row) (t u : ℕ) → is_rise r t ≡ true → u ≡ t + r.period → IsFirst (is_rise r) t u u
period_later r t u rise later =
    let (b, some, multiple) = at_multiple r t rise in
    record {
      after = omega arith;
      within = omega arith;
      holds = multiple_rises r u (b + 1) (omega arith) (omega arith);
      none = λ i from to. no_rise r i b (omega arith) (omega arith);
    }

-- where the first period is not over at s, the first rise after it is that period's
pub earliest_rise : (r : Row) (s : ℕ) → s + r.jitter < r.period
    → IsFirst (is_rise r) s (s + r.period) (r.period - r.jitter)
earliest_rise r s early =
    record {
      after = omega arith;
      within = omega arith;
      holds = multiple_rises r (r.period - r.jitter) 1 (omega arith) (omega arith);
      none = λ i from to. no_rise r i 0 (omega arith) (omega arith);
    }
