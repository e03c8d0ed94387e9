-- The corners of a bound that is exact for n releases: the rises of these.
use Rattle.std.specs.Prelude.{◌≡◌, ℕ, zero, suc, ◌+◌, ◌*◌, ◌<◌, ◌≤◌, ◌&&◌, Bool, true, false, cond}
use Rattle.std.proofs.Common.{sym, refl, ⊎_elim, lt_of_mul-lt-mul_right, arith}
use Rattle.std.proofs.lemmas.Nat.{mul-le}
use Rattle.std.proofs.lemmas.Bool.{and_parts, and_left, and_right, and_from, and_cases, leb-true, leb-false, le-leb}
use Rattle.std.proofs.lemmas.Bool.{lt-leb, cases_lt, both_ways}
use Rattle.rows.specs.declared.tasks.Row.{Row}
use Rattle.rows.specs.Counting.{is_rise}
use Rattle.bounds.specs.Instants.{count, IsFirst}
use Rattle.bounds.specs.Tails.{is_exact}
use Rattle.rows.proofs.Rising.{at_multiple, multiple_rises}

module _ (n : ℕ) (r : Row) where
  -- the corners of the row
  abbrev corner : ℕ → Bool
  corner t = is_rise r t && is_exact n r t

  -- how long the releases are exact, counted from the first
  abbrev covered : ℕ
  covered = n * r.period

  -- what is exact was exact earlier
  pub earlier_exact : (s t : ℕ) → s ≤ t → is_exact n r t ≡ true → is_exact n r s ≡ true
  earlier_exact s t order before = le-leb (s + r.jitter) covered (omega (arith, leb-true (t + r.jitter) covered before))

  -- what is past the tail's coveredning stays past it
  pub later_late : (s t : ℕ) → s ≤ t → is_exact n r s ≡ false → is_exact n r t ≡ false
  later_late s t order past = lt-leb (t + r.jitter) covered (omega (arith, leb-false (s + r.jitter) covered past))

  -- up to there, what is no corner is no rise
  pub rest_exact : (t : ℕ) → corner t ≡ false → is_exact n r t ≡ true → is_rise r t ≡ false
  rest_exact t rest before =
      ⊎_elim (λ e. e) (λ past. absurd (both_ways (is_exact n r t) past before))
      (and_cases (is_rise r t) (is_exact n r t) rest)

  -- up to there and at no rise there is room for one instant more
  pub still_exact : (t : ℕ) → 1 ≤ t → is_rise r t ≡ false → is_exact n r t ≡ true
      → is_exact n r (t + 1) ≡ true
  still_exact t late rest before =
      let order = leb-true (t + r.jitter) covered before in
      let some = lt_of_mul-lt-mul_right r.period {m = 0} {n = n} (omega arith) in
      let apart : t + r.jitter ≡ covered
      → ⊥ = λ multiple. both_ways (is_rise r t) rest (multiple_rises r t n some multiple) in
      le-leb (t + 1 + r.jitter) covered (omega arith)

  -- the first rise is the first corner where it is exact
  pub first_corner : (s e t : ℕ) → IsFirst (is_rise r) s e t → true ≡ is_exact n r t → IsFirst corner s e t
  first_corner s e t first before =
      record {
        after = first.after;
        within = first.within;
        holds = and_from (is_rise r t) (is_exact n r t) first.holds (sym before);
        none = λ i low high. and_left (is_rise r i) (is_exact n r i) (first.none i low high);
      }

  -- where the first rise is past the tail's coveredning, no corner follows
  pub no_corner : (s e t : ℕ) → IsFirst (is_rise r) s e t → false ≡ is_exact n r t → (i : ℕ) → s < i
      → corner i ≡ false
  no_corner s e t first past i low =
      ⊎_elim (λ early. and_left (is_rise r i) (is_exact n r i) (first.none i low early))
      (λ late. and_right (is_rise r i) (is_exact n r i) (later_late t i late (sym past)))
      (cases_lt i t)

  -- up to an instant e there are at most n corners, each with a period of its own up to e + jitter
  pub few_corners : (e : ℕ) → (count corner e ≤ n) × (count corner e * r.period ≤ e + r.jitter)
  unfolding count
  few_corners zero = (omega arith, omega arith)
  few_corners (suc e) = at (count corner e) (corner (suc e)) refl (few_corners e)
    where
      at : (m : ℕ) (b : Bool) → corner (suc e) ≡ b → (m ≤ n) × (m * r.period ≤ e + r.jitter)
          → (m + cond b 1 0 ≤ n) × ((m + cond b 1 0) * r.period ≤ suc e + r.jitter)
      at m false _ few = (omega arith, omega arith)
      at m true here few =
          let parts = and_parts (is_rise r (suc e)) (is_exact n r (suc e)) here in
          let order = leb-true (suc e + r.jitter) covered parts.1 in
          let rise = at_multiple r (suc e) parts.0 in
          let less = lt_of_mul-lt-mul_right r.period {m = m} {n = n} (omega arith) in
          let fewer = lt_of_mul-lt-mul_right r.period {m = m} {n = rise.0} (omega (arith, rise.2)) in
          (omega arith, omega (arith, rise.2, mul-le (m + 1) r.period rise.0 r.period (omega arith) (omega arith)))
