-- The laws of the staircase.
use Rattle.std.specs.Prelude.{◌≡◌, ℕ, zero, suc, ◌+◌, ◌-◌, ◌*◌, ◌/◌, ◌≤◌, ◌&&◌, Bool, true, false, cond, refl}
use Rattle.std.proofs.Common.{ap, sym, ◌∙◌, ⊎_elim, inl, inr, lt_of_mul-lt-mul_right, arith}
use Rattle.std.proofs.Math.Nat.{eq_of_mul-eq-mul_left}
use Rattle.std.proofs.lemmas.Nat.{mul-le, div-add-mod', mod_below}
use Rattle.std.proofs.lemmas.Bool.{and_cases, and_left, cases_Bool, cases_lt, both_ways}
use Rattle.rows.specs.declared.tasks.Row.{Row}
use Rattle.rows.specs.Times.{horizon}
use Rattle.rows.specs.Counting.{is_rise, steps}
use Rattle.rows.proofs.Ceiling.{ceiling_covers, ceiling_grows, ceiling_is, ceiling_tight}
use Rattle.rows.proofs.Rising.{at_multiple, multiple_rises, steps_stay}
use Rattle.bounds.specs.Instants.{count}
use Rattle.bounds.specs.Laws.{Laws}
use Rattle.bounds.specs.Meaning.{finest}
use Rattle.bounds.specs.Stairs.{is_stair, jobs_until, rounded}
use Rattle.bounds.specs.Supplied.{staircase}
use Rattle.bounds.specs.Lemmas.Instants.{count_more}
use Rattle.bounds.specs.Lemmas.Stairs.{rounded_close, rounded_covers, rounded_grows, rounded_stays, stays_stair}
use Rattle.bounds.specs.Lemmas.Quotients.{quotient_is}
use Rattle.bounds.specs.Lemmas.StairCounts.{few_stairs}

module _ (r : Row) where
  -- the jobs of a row never become fewer
  jobs_grow : (s t : ℕ) → s ≤ t → jobs_until r s ≤ jobs_until r t
  jobs_grow s t order = ceiling_grows (s + r.jitter) (t + r.jitter) r.period (omega arith) (omega arith)

  -- where exact steps do not rise, there are as many jobs an instant later
  jobs_stay : (t : ℕ) → 1 ≤ t → is_rise r t ≡ false → jobs_until r (t + 1) ≡ jobs_until r t
  jobs_stay t late level = eq_of_mul-eq-mul_left r.work r.busy _ _ (steps_stay r t late level)

  -- an instant later there is at most one job more
  jobs_near : (t : ℕ) → jobs_until r (t + 1) ≤ jobs_until r t + 1
  jobs_near t =
      let tight = ceiling_tight (t + 1 + r.jitter) r.period (omega arith) in
      let covers = ceiling_covers (t + r.jitter) r.period (omega arith) in
      let fewer = lt_of_mul-lt-mul_right r.period {m = jobs_until r (t + 1)} {n = jobs_until r t + 2} (omega arith) in
      omega arith

  -- at the b-th rise there are b jobs
  pub jobs_at_rise : (t b : ℕ) → t + r.jitter ≡ b * r.period → jobs_until r t ≡ b
  jobs_at_rise t b multiple = ceiling_is (t + r.jitter) r.period b (omega arith) (omega arith) (omega arith)

-- more jobs have no fewer parts
parts_grow : (h w m n : ℕ) → m ≤ n → h * (w * m) ≤ h * (w * n)
parts_grow h w m n order = mul-le h _ h _ (omega arith) (mul-le w m w n (omega arith) order)

module _ (k : ℕ) (some : 1 ≤ k) (r : Row) where
  -- the corners of the row
  abbrev corner : ℕ → Bool
  corner = (staircase k).is_corner r

  -- how many corners there are up to t: as many as stairs among the jobs whose releases are over
  abbrev CornersUpTo : ℕ → Type 0
  CornersUpTo t = count corner t ≡ count (is_stair k) ((t + r.jitter) / r.period)

  -- at the b-th rise there is a corner more where b is a stair
  corner_more : (t b : ℕ) → is_rise r (suc t) ≡ true → 1 ≤ b → suc t + r.jitter ≡ b * r.period → CornersUpTo t
      → CornersUpTo (suc t)
  corner_more t zero rise late multiple before = absurd (omega arith)
  corner_more t (suc b) rise late multiple before =
      let stair = is_stair k (suc b) in
      let here : corner (suc t) ≡ stair =
      ap (λ x. x && is_stair k (jobs_until r (suc t))) rise
      ∙ ap (is_stair k) (jobs_at_rise r (suc t) (suc b) multiple) in
      let last = quotient_is (t + r.jitter) r.period b (omega arith) (omega arith) in
      let next = quotient_is (suc t + r.jitter) r.period (suc b) (omega arith) (omega arith) in
      count_more corner t stair here
      ∙ ap (λ n. n + cond stair 1 0) (before ∙ ap (count (is_stair k)) (sym last))
      ∙ sym (count_more (is_stair k) b stair refl)
      ∙ ap (count (is_stair k)) next

  -- and elsewhere none
  corner_same : (t : ℕ) → is_rise r (suc t) ≡ false → CornersUpTo t → CornersUpTo (suc t)
  corner_same t level before =
      let q = (t + r.jitter) / r.period in
      let split = div-add-mod' (t + r.jitter) r.period in
      let left = mod_below (t + r.jitter) r.period (omega arith) in
      let apart : suc t + r.jitter ≡ (q + 1) * r.period
      → ⊥ = λ multiple. both_ways (is_rise r (suc t)) level (multiple_rises r (suc t) (q + 1) (omega arith) multiple) in
      let same = quotient_is (suc t + r.jitter) r.period q (omega arith) (omega arith) in
      let here = count_more corner t false (and_left (is_rise r (suc t)) (is_stair k (jobs_until r (suc t))) level) in
      let stay : count corner (suc t) ≡ count corner t = omega arith in
      stay ∙ before ∙ ap (count (is_stair k)) same

  -- up to t there are as many corners as stairs among the jobs whose releases are over
  pub corners_are_stairs : (t : ℕ) → CornersUpTo t
  unfolding count
  corners_are_stairs zero =
      ap (count (is_stair k)) (quotient_is (0 + r.jitter) r.period 0 (omega arith) (omega arith))
  corners_are_stairs (suc t) =
      ⊎_elim
      (λ rise.
      let (b, late, multiple) = at_multiple r (suc t) rise in
      corner_more t b rise late multiple (corners_are_stairs t))
      (λ level. corner_same t level (corners_are_stairs t))
      (cases_Bool (is_rise r (suc t)))

  -- so up to the horizon there are at most 26 × k
  few_corners : count corner horizon ≤ 26 * k
  few_corners =
      let jobs = (horizon + r.jitter) / r.period in
      let near = lt_of_mul-lt-mul_right r.period {m = jobs} {n = horizon + 1}
      (omega (
        arith,
        div-add-mod' (horizon + r.jitter) r.period,
        mul-le horizon 1 horizon r.period (omega arith) (omega arith),
      )) in
      omega (arith, corners_are_stairs horizon, few_stairs k some jobs (omega arith))

  -- what is counted at an instant and after it
  counted_stays : (t : ℕ) → 1 ≤ t → corner t ≡ false
      → rounded k (jobs_until r (t + 1)) ≤ rounded k (jobs_until r t)
  counted_stays t late rest =
      ⊎_elim
      (λ level. let same = jobs_stay r t late level in omega (arith, ap (rounded k) same))
      (λ between.
      elim (cases_lt (jobs_until r t) (rounded k (jobs_until r t))) [
        | inl more ↦
            omega (
              arith,
              rounded_stays k some (jobs_until r t),
              rounded_grows k some (jobs_until r (t + 1)) (rounded k (jobs_until r t))
                  (omega (arith, jobs_near r t)),
            )
        | inr same ↦ absurd (both_ways (is_stair k (jobs_until r t)) between
            (stays_stair k some (jobs_until r t) (omega (arith, rounded_covers k some (jobs_until r t)))))
      ])
      (and_cases (is_rise r t) (is_stair k (jobs_until r t)) rest)

  -- the amount bends upward only at a corner
  amount_bends : (h t : ℕ) → 1 ≤ t → corner t ≡ false
      → (staircase k).amount h r (t - 1) + (staircase k).amount h r (t + 1) ≤ 2 * (staircase k).amount h r t
  amount_bends h t late rest =
      let before = parts_grow h r.work _ _
      (rounded_grows k some (jobs_until r (t - 1)) (jobs_until r t) (jobs_grow r (t - 1) t (omega arith))) in
      let after = parts_grow h r.work _ _ (counted_stays t late rest) in
      omega arith

  -- and is at most (k + 1) / k times the exact steps
  amount_close : (h t : ℕ) → k * (staircase k).amount h r t ≤ (k + 1) * (h * steps r t)
  amount_close h t =
      omega (
        arith,
        parts_grow h r.work (k * rounded k (jobs_until r t)) ((k + 1) * jobs_until r t)
            (rounded_close k some (jobs_until r t)),
      )

-- the staircase shows every law
pub stair_laws : (k : ℕ) → 1 ≤ k → k ≤ finest → Laws (staircase k)
stair_laws k low high =
    record {
      covers = λ h r t ask. parts_grow h r.work _ _ (rounded_covers k low (jobs_until r t));
      close = λ h r t ask. amount_close k low r h t;
      some_accuracy = low;
      most_accuracy = high;
      bends = λ h r t ask late before rest. amount_bends k low r h t late rest;
      starts = λ r. refl;
      few = λ r. few_corners k low r;
    }
