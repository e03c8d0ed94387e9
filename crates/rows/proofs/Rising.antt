-- When the steps of a row rise, and how they run between two rises.
use Rattle.std.proofs.Common.{◌≡◌, ℕ, ◌+◌, ◌*◌, ◌/◌, ◌%◌, ◌<◌, ◌≤◌, true, false, eqb, leb, ap, ⊎_elim}
use Rattle.std.proofs.Common.{lt_of_mul-lt-mul_right, arith}
use Rattle.std.proofs.Math.Nat.{mul-mod_left}
use Rattle.std.proofs.lemmas.Nat.{div-add-mod', mul-le}
use Rattle.std.proofs.lemmas.Bool.{and_parts, and_from, leb-true, le-leb, eqb-true, eq-eqb, cases_Bool, both_ways}
use Rattle.rows.specs.declared.tasks.Row.{Row}
use Rattle.rows.specs.Times.{ceiling}
use Rattle.rows.specs.Counting.{steps, is_rise, StepsRise}
use Rattle.rows.proofs.Ceiling.{ceiling_is, ceiling_covers, ceiling_tight, ceiling_grows}

module _ (r : Row) where
  -- a rise is some b × period − jitter
  pub at_multiple : (t : ℕ) → is_rise r t ≡ true → (b : ℕ) × (1 ≤ b) × (t + r.jitter ≡ b * r.period)
  at_multiple t rise =
      let parts = and_parts (leb 1 t) (eqb ((t + r.jitter) % r.period) 0) rise in
      let late = leb-true 1 t parts.0 in
      let multiple : t + r.jitter ≡ (t + r.jitter) / r.period * r.period =
      omega (arith, div-add-mod' (t + r.jitter) r.period, eqb-true ((t + r.jitter) % r.period) 0 parts.1) in (
        (t + r.jitter) / r.period,
        lt_of_mul-lt-mul_right r.period {m = 0} {n = (t + r.jitter) / r.period} (omega arith),
        multiple,
      )

  -- every instant b × period − jitter is a rise
  pub multiple_rises : (t b : ℕ) → 1 ≤ b → t + r.jitter ≡ b * r.period → is_rise r t ≡ true
  multiple_rises t b some multiple =
      let room = mul-le 1 r.period b r.period some (omega arith) in
      and_from (leb 1 t) (eqb ((t + r.jitter) % r.period) 0) (le-leb 1 t (omega arith))
      (eq-eqb ((t + r.jitter) % r.period) 0 (rw (multiple, mul-mod_left)))

  -- there is no rise strictly between two neighbouring multiples
  pub no_rise : (t b : ℕ) → b * r.period < t + r.jitter → t + r.jitter < (b + 1) * r.period → is_rise r t ≡ false
  no_rise t b low high =
      ⊎_elim (λ rise. absurd (between (at_multiple t rise))) (λ none. none) (cases_Bool (is_rise r t))
    where
      between : (n : ℕ) × (1 ≤ n) × (t + r.jitter ≡ n * r.period) → ⊥
      between (n, some, multiple) =
          let below = lt_of_mul-lt-mul_right r.period {m = b} {n = n} (omega arith) in
          let above = lt_of_mul-lt-mul_right r.period {m = n} {n = b + 1} (omega arith) in
          omega arith

  -- steps never fall
  pub steps_grow : (s t : ℕ) → s ≤ t → steps r s ≤ steps r t
  steps_grow s t order =
      mul-le r.work _ r.work _ (omega arith)
      (ceiling_grows (s + r.jitter) (t + r.jitter) r.period (omega arith) (omega arith))

  -- where they do not rise, they stay
  pub steps_stay : (t : ℕ) → 1 ≤ t → is_rise r t ≡ false → steps r (t + 1) ≡ steps r t
  steps_stay t late none =
      let some : 0 < r.period = omega arith in
      let jobs = ceiling (t + r.jitter) r.period in
      let covers = ceiling_covers (t + r.jitter) r.period some in
      let tight = ceiling_tight (t + r.jitter) r.period some in
      let more = lt_of_mul-lt-mul_right r.period {m = 0} {n = jobs} (omega arith) in
      let apart : t + r.jitter ≡ jobs * r.period
      → ⊥ = λ multiple. both_ways (is_rise r t) none (multiple_rises t jobs more multiple) in
      ap (λ n. r.work * n) (ceiling_is (t + 1 + r.jitter) r.period jobs some (omega arith) (omega arith))

  -- where they rise, they grow by the work of one job
  steps_rise : (t : ℕ) → is_rise r t ≡ true → steps r (t + 1) ≡ steps r t + r.work
  steps_rise t rise =
      let (b, some, multiple) = at_multiple t rise in
      let now = ceiling_is (t + r.jitter) r.period b (omega arith) (omega arith) (omega arith) in
      let next = ceiling_is (t + 1 + r.jitter) r.period (b + 1) (omega arith) (omega arith) (omega arith) in
      rw (now, next) (omega arith)

  pub rising : StepsRise r
  rising = record { multiple = at_multiple; every = multiple_rises; up = steps_rise; level = steps_stay }
