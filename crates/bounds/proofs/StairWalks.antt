-- From one stair to the next, and from one corner of the staircase to the next.
use Rattle.std.proofs.Common.{◌≡◌, refl, ℕ, suc, ◌+◌, ◌*◌, ◌/◌, ◌%◌, ◌^◌, ◌<◌, ◌≤◌}
use Rattle.std.proofs.Common.{true, nat_le, ◌==◌, sym, ap, subst, inl, inr, ⊎_elim, ◌∙◌, arith}
use Rattle.std.proofs.Common.{lt_of_mul-lt-mul_right}
use Rattle.std.proofs.Math.Nat.{pow-suc}
use Rattle.std.proofs.lemmas.Nat.{mul-le, div-add-mod', mod_below}
use Rattle.std.proofs.lemmas.Bool.{le-leb, or_left, and_from, and_parts, both_ways, cases_Bool, cases_lt}
use Rattle.rows.specs.declared.tasks.Row.{Row}
use Rattle.rows.specs.Times.{ceiling}
use Rattle.rows.specs.Counting.{is_rise}
use Rattle.rows.proofs.Ceiling.{ceiling_is}
use Rattle.rows.proofs.Rising.{at_multiple, multiple_rises}
use Rattle.bounds.specs.Instants.{IsFirst}
use Rattle.bounds.specs.Stairs.{IsGrain, Rounds, Stands, grain, is_stair, jobs_until, rounded}
use Rattle.bounds.specs.Supplied.{staircase}
use Rattle.bounds.specs.Lemmas.Grains.{grain_by, grain_is, grain_some, grain_tight, grain_unique, grains_part}
use Rattle.bounds.specs.Lemmas.Stairs.{multiple_counted, next_stair, rounded_few, rounded_covers, rounded_grows}
use Rattle.bounds.specs.Lemmas.Stairs.{rounded_many}
use Rattle.bounds.specs.Lemmas.Stairs.{rounded_near, rounded_stays, rounded_twice, stair_stays, stays_stair}
use Rattle.bounds.specs.Lemmas.StairCounts.{few_counted, stairs_counted}
use Rattle.bounds.specs.Lemmas.StairLaws.{jobs_at_rise}

-- the multiple of g that is nearest above n is n rounded up
nearest_multiple : (n g m : ℕ) → 1 ≤ g → n ≤ m → m < n + g → m % g ≡ 0 → m ≡ ceiling n g * g
nearest_multiple n g m some low high multiple =
    let split = div-add-mod' m g in
    let up = ceiling_is n g (m / g) some (omega arith) (omega arith) in
    omega (arith, ap (λ x. x * g) up)

module _ (k : ℕ) (some : 1 ≤ k) where
  -- what rounding does at an accuracy
  pub rounds_at : Rounds k
  rounds_at =
      record {
        grains = grain_is k some;
        covers = rounded_covers k some;
        near = λ n enough. rounded_near k some n (grain k n) enough (grain_is k some n enough);
        grows = rounded_grows k some;
        stays = stair_stays k some;
        lands = λ n. stays_stair k some (rounded k n) (rounded_stays k some n);
        few = few_counted k some;
        many = stairs_counted k some;
      }

  -- a power of two that the quotient by k reaches and does not reach twice is the grain
  pub grain_of_quotient : (n g e : ℕ) → g ≡ 2 ^ e → g ≤ n / k → n / k < 2 * g → IsGrain k n g
  grain_of_quotient n g e power low high =
      let split = div-add-mod' n k in
      let left = mod_below n k some in
      let fits = mul-le k g k (n / k) (omega arith) low in
      let tight = mul-le k (n / k + 1) k (2 * g) (omega arith) (omega arith) in
      grain_by k some e power (omega arith) (omega arith)

  -- past k, n rounded up on its grain is what is counted
  pub rounded_is : (n g m : ℕ) → k < n → IsGrain k n g → n ≤ m → m < n + g → m % g ≡ 0 → m ≡ rounded k n
  rounded_is n g m many is low high multiple =
      nearest_multiple n g m (grain_some k some is) low high multiple ∙ sym (rounded_many k some n g many is)

  -- past k it is the grain
  grain_here : (n g : ℕ) → k ≤ n → Stands k n g → IsGrain k n g
  grain_here n g enough here = subst (IsGrain k n) (sym (here.many enough)) (grain_is k some n enough)

  -- what is said of the grain is so of no other number
  grain_found : (n g : ℕ) → k ≤ n → IsGrain k n g → g ≡ grain k n
  grain_found n g enough is = grain_unique k some is (grain_is k some n enough)

  -- a stair stands with 1 up to k, and past it with its grain
  pub stands_few : (n : ℕ) → n ≤ k → Stands k n 1
  stands_few n low =
      record {
        stair = or_left (nat_le n k) (rounded k n == n) (le-leb n k low);
        few = λ _. refl;
        many = λ high. grain_found n 1 high (grain_by k some 0 refl (omega arith) (omega arith));
      }

  stands_many : (n g : ℕ) → is_stair k n ≡ true → k < n → IsGrain k n g → Stands k n g
  stands_many n g stair high is =
      record { stair = stair; few = λ low. absurd (omega arith); many = λ enough. grain_found n g enough is }

  -- n rounded up on its grain stands with the same grain while that does not fit twice
  pub lands_fine : (n g m : ℕ) → k < n → IsGrain k n g → m ≡ rounded k n → m < k * (2 * g) → Stands k m g
  lands_fine n g m many is counted under =
      let covers = rounded_covers k some n in
      let stair = subst (λ x. is_stair k x ≡ true) (sym counted) (rounds_at.lands n) in
      stands_many m g stair (omega (arith, covers))
      (grain_by k some is.power.0 is.power.1 (omega (arith, is.fits, covers)) under)

  -- and else with one twice as coarse
  pub lands_coarse : (n g m : ℕ) → k < n → IsGrain k n g → m ≡ rounded k n → k * (2 * g) ≤ m → Stands k m (2 * g)
  lands_coarse n g m many is counted over =
      let covers = rounded_covers k some n in
      let near = rounded_near k some n g (omega arith) is in
      let stair = subst (λ x. is_stair k x ≡ true) (sym counted) (rounds_at.lands n) in
      let widens = mul-le 1 g k g some (omega arith) in
      let twice : 2 * g ≡ 2 ^ suc is.power.0 = omega (arith, is.power.1, pow-suc 2 is.power.0) in
      stands_many m (2 * g) stair (omega (arith, covers))
      (grain_by k some (suc is.power.0) twice over (omega (arith, grain_tight k some is, widens, near)))

  -- a stair past k is a multiple of its grain
  stair_multiple : (n g : ℕ) → k ≤ n → Stands k n g → (q : ℕ) × (n ≡ q * g)
  stair_multiple n g enough here = elim (cases_lt k n) [
    | inl many ↦
        (ceiling n g, sym (stair_stays k some n here.stair) ∙ rounded_many k some n g many (grain_here n g enough here))
    | inr last ↦ (n, omega (arith, ap (λ x. n * x) (here.few last)))
  ]

  -- past k one job more is counted as a grain more
  coarse_further : (n g : ℕ) → k ≤ n → Stands k n g → rounded k (n + 1) ≡ n + g
  coarse_further n g enough here =
      let (q, multiple) = stair_multiple n g enough here in
      let is = grain_here n g enough here in
      let f = grain k (n + 1) in
      let other = grain_is k some (n + 1) (omega arith) in
      let some_g = grain_some k some is in
      elim (grains_part k some is other (omega arith)) [
        | inl same ↦
            let up = ceiling_is (n + 1) g (q + 1) some_g (omega (arith, multiple, some_g)) (omega (arith, multiple)) in
            let counted = rounded_many k some (n + 1) g (omega arith) (subst (IsGrain k (n + 1)) (sym same) other) in
            omega (arith, counted, multiple, ap (λ x. x * g) up)
        | inr twice ↦
            let coarse = mul-le k (2 * g) k f (omega arith) twice in
            let tight = grain_tight k some is in
            let last : n + 1 ≡ k * f = omega (arith, other.fits, tight, coarse) in
            let fewer = lt_of_mul-lt-mul_right g {m = q} {n = 2 * k} (omega (arith, multiple, tight)) in
            let single : g ≡ 1 =
            let more = mul-le (q + 1) g (2 * k) g (omega (arith, fewer)) (omega arith) in
            omega (arith, more, multiple, last, coarse, some_g) in
            let counted = multiple_counted k some (n + 1) (n + 1) f k (omega arith) (omega arith) other last
            (omega (arith, grain_tight k some other)) in
            omega (arith, counted, single)
      ]

  -- after a stair the next one is a grain further
  pub grain_further : (n g : ℕ) → Stands k n g → rounded k (n + 1) ≡ n + g
  grain_further n g here = elim (cases_lt n k) [
    | inl few ↦ omega (arith, rounded_few k some (n + 1) (omega arith), here.few (omega arith))
    | inr enough ↦ coarse_further n g enough here
  ]

  pub next_is : (n g : ℕ) → Stands k n g → IsFirst (is_stair k) n (n + g) (n + g)
  next_is n g here = subst (λ m. IsFirst (is_stair k) n m m) (grain_further n g here) (next_stair k some n)

  -- there the grain is the same while it does not fit twice
  pub stands_on : (n g : ℕ) → Stands k n g → n + g < k * (2 * g) → Stands k (n + g) g
  stands_on n g here under =
      record {
        stair = subst (λ m. is_stair k m ≡ true) (grain_further n g here)
            (stays_stair k some (rounded k (n + 1)) (rounded_stays k some (n + 1)));
        few = λ low. here.few (omega arith);
        many = λ enough. grain_found (n + g) g enough (elim (cases_lt n k) [
          | inl few ↦
              let single = here.few (omega arith) in
              grain_by k some 0 single (omega (arith, ap (λ x. k * x) single)) under
          | inr before ↦
              let is = grain_here n g before here in
              grain_by k some is.power.0 is.power.1 (omega (arith, is.fits)) under
        ]);
      }

  -- and else twice as coarse
  pub stands_coarser : (n g : ℕ) → Stands k n g → k * (2 * g) ≤ n + g → Stands k (n + g) (2 * g)
  stands_coarser n g here over = elim (cases_lt n k) [
    | inl few ↦ absurd (let single = here.few (omega arith) in omega (arith, single, ap (λ x. k * (2 * x)) single))
    | inr enough ↦
        let is = grain_here n g enough here in
        let (e, power) = is.power in
        let some_g = grain_some k some is in
        let widens = mul-le 1 g k g some (omega arith) in
        record {
          stair = subst (λ m. is_stair k m ≡ true) (grain_further n g here)
              (stays_stair k some (rounded k (n + 1)) (rounded_stays k some (n + 1)));
          few = λ low. absurd (omega (arith, mul-le k 2 k (2 * g) (omega arith) (omega arith)));
          many = λ far. grain_found (n + g) (2 * g) far
              (grain_by k some (suc e) (omega (arith, power, pow-suc 2 e)) over
              (omega (arith, grain_tight k some is, widens)));
        }
  ]

-- what is counted for one job more than the rises up to s reaches no further than twice the next period
pub reach_small : (k : ℕ) → 1 ≤ k → (r : Row) (s : ℕ)
    → rounded k ((s + r.jitter) / r.period + 1) * r.period ≤ 2 * (s + r.jitter + r.period)
reach_small k some r s =
    let n = (s + r.jitter) / r.period + 1 in
    let split = div-add-mod' (s + r.jitter) r.period in
    omega (arith, split, mul-le (rounded k n) r.period (2 * n) r.period (rounded_twice k some n) (omega arith))

-- and at least past the jitter
pub reach_some : (k : ℕ) → 1 ≤ k → (r : Row) (b : ℕ) → r.jitter < rounded k (b + 1) * r.period
reach_some k some r b =
    let covers = rounded_covers k some (b + 1) in
    omega (arith, mul-le 1 r.period (rounded k (b + 1)) r.period (omega (arith, covers)) (omega arith))

-- a rise at which there are as many jobs as a stair is a corner
pub corner_here : (k : ℕ) (r : Row) (n t : ℕ) → 1 ≤ n → is_stair k n ≡ true → t + r.jitter ≡ n * r.period
    → (staircase k).is_corner r t ≡ true
corner_here k r n t some stair at =
    and_from (is_rise r t) (is_stair k (jobs_until r t)) (multiple_rises r t n some at)
    (ap (is_stair k) (jobs_at_rise r t n at) ∙ stair)

-- the corner at a stair m is the first one after s, where the stair is the first past the b jobs whose rises s has seen
pub first_corner : (k : ℕ) → 1 ≤ k → (r : Row) (s b m t : ℕ) → b * r.period ≤ s + r.jitter
    → s + r.jitter < (b + 1) * r.period → IsFirst (is_stair k) b m m → t + r.jitter ≡ m * r.period
    → IsFirst ((staircase k).is_corner r) s t t
first_corner k some r s b m t seen unseen next at =
    let more = mul-le (b + 1) r.period m r.period (omega (arith, next.after)) (omega arith) in
    record {
      after = omega arith;
      within = omega arith;
      holds = corner_here k r m t (omega (arith, next.after)) next.holds at;
      none = λ i low high. ⊎_elim (λ corner. absurd (between i low high corner)) (λ none. none)
          (cases_Bool ((staircase k).is_corner r i));
    }
  where
    between : (i : ℕ) → s < i → i < t → (staircase k).is_corner r i ≡ true → ⊥
    between i low high corner =
        let parts = and_parts (is_rise r i) (is_stair k (jobs_until r i)) corner in
        let (c, late, multiple) = at_multiple r i parts.0 in
        let stair = ap (is_stair k) (sym (jobs_at_rise r i c multiple)) ∙ parts.1 in
        let past = lt_of_mul-lt-mul_right r.period {m = b} {n = c} (omega arith) in
        let before = lt_of_mul-lt-mul_right r.period {m = c} {n = m} (omega arith) in
        both_ways (is_stair k c) (next.none c past before) stair

-- the first corner after s stands at what is counted for one job more than the rises up to s
pub corner_next : (k : ℕ) → 1 ≤ k → (r : Row) (s t : ℕ)
    → t + r.jitter ≡ rounded k ((s + r.jitter) / r.period + 1) * r.period → IsFirst ((staircase k).is_corner r) s t t
corner_next k some r s t at =
    let b = (s + r.jitter) / r.period in
    let split = div-add-mod' (s + r.jitter) r.period in
    let left = mod_below (s + r.jitter) r.period (omega arith) in
    first_corner k some r s b (rounded k (b + 1)) t (omega arith) (omega arith) (next_stair k some b) at

-- and after a corner where the walk stands, at the next stair
pub corner_on : (k : ℕ) → 1 ≤ k → (r : Row) (n g s t : ℕ) → Stands k n g → s + r.jitter ≡ n * r.period
    → t ≡ s + g * r.period → IsFirst ((staircase k).is_corner r) s t t
corner_on k some r n g s t here at next =
    first_corner k some r s n (n + g) t (omega arith) (omega arith) (next_is k some n g here) (omega arith)
