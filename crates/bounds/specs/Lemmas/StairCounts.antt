-- How many stairs there are up to a number of jobs.
use Rattle.std.specs.Prelude.{◌≡◌, ℕ, zero, suc, ◌+◌, ◌-◌, ◌*◌, ◌/◌, ◌%◌, ◌^◌, ◌<◌, ◌≤◌}
use Rattle.std.specs.Prelude.{◌==◌, true, false, nat_le, refl}
use Rattle.std.proofs.Common.{sym, ap, subst, ⊎_elim, inl, inr, lt_of_mul-lt-mul_right, arith}
use Rattle.std.proofs.Math.Nat.{pow-suc}
use Rattle.std.proofs.Math.Pow.{pow_mono}
use Rattle.std.proofs.lemmas.Nat.{mul-le, div-add-mod', mod_below}
use Rattle.std.proofs.lemmas.Bool.{cases_lt, cases_order, le-leb, or_left}
use Rattle.rows.specs.Times.{ceiling, horizon}
use Rattle.rows.proofs.Ceiling.{ceiling_is}
use Rattle.bounds.specs.Instants.{count}
use Rattle.bounds.specs.Stairs.{IsGrain, is_stair, rounded}
use Rattle.bounds.specs.Lemmas.Grains.{below_power, grain_is, grain_some, grain_tight, same_exponent}
use Rattle.bounds.specs.Lemmas.Instants.{count_more}
use Rattle.bounds.specs.Lemmas.Quotients.{quotient_is}
use Rattle.bounds.specs.Lemmas.Stairs.{multiple_counted, no_stair, rounded_many, stays_stair}

module _ (k : ℕ) (some : 1 ≤ k) where
  -- all of the first k are stairs
  pub few_counted : (n : ℕ) → n ≤ k → count (is_stair k) n ≡ n
  unfolding count
  few_counted zero few = refl
  few_counted (suc n) few =
      let here = count_more (is_stair k) n true
      (or_left (nat_le (suc n) k) (rounded k (suc n) == suc n) (le-leb (suc n) k few)) in
      omega (arith, here, few_counted n (omega arith))

  -- what is to be counted up to n, whose grain is 2^e: k for each coarsening, and one for each of its multiples
  abbrev StairsUpTo : ℕ → ℕ → Type 0
  StairsUpTo n e = count (is_stair k) n ≡ e * k + n / 2 ^ e

  -- with the same grain a number more is a stair where it is a multiple of it
  same_grain : (n e : ℕ) → k ≤ n → IsGrain k n (2 ^ e) → IsGrain k (suc n) (2 ^ e) → StairsUpTo n e
      → StairsUpTo (suc n) e
  same_grain n e enough one other before =
      let g = 2 ^ e in
      let split = div-add-mod' n g in
      let q = n / g in
      elim (cases_lt (n % g + 1) g) [
        | inl between ↦
            let up : ceiling (suc n) g ≡ q + 1 =
            ceiling_is (suc n) g (q + 1) (grain_some k some one) (omega arith) (omega arith) in
            let more = no_stair k some (suc n)
            (omega (arith, rounded_many k some (suc n) g (omega arith) other, ap (λ x. x * g) up)) in
            let same = quotient_is (suc n) g q (omega arith) (omega arith) in
            omega (arith, count_more (is_stair k) n false more, same)
        | inr full ↦
            let left = mod_below n g (grain_some k some one) in
            let multiple : suc n ≡ (q + 1) * g = omega arith in
            let stair = stays_stair k some (suc n) (multiple_counted k some (suc n) (suc n) g (q + 1) (omega arith)
            (omega arith) other multiple (omega (arith, grain_tight k some other))) in
            let next = quotient_is (suc n) g (q + 1) (omega arith) (omega arith) in
            omega (arith, count_more (is_stair k) n true stair, next)
      ]

  -- where the grain is coarser, the number more holds it k times
  coarser_grain : (n d e : ℕ) → k ≤ n → IsGrain k n (2 ^ d) → IsGrain k (suc n) (2 ^ e) → d < e → StairsUpTo n d
      → StairsUpTo (suc n) e
  coarser_grain n d e enough one other more before =
      let g = 2 ^ d in
      let f = 2 ^ e in
      let some_g = grain_some k some one in
      let at_least : 2 * g ≤ f = omega (arith, pow-suc 2 d, pow_mono more) in
      let last : suc n ≡ k * f =
      omega (arith, grain_tight k some one, other.fits, mul-le k (2 * g) k f (omega arith) at_least) in
      let at_most = lt_of_mul-lt-mul_right k {m = f} {n = 2 * g + 1} (omega (arith, grain_tight k some one)) in
      let twice : f ≡ 2 * g = omega arith in
      let next = same_exponent e (suc d) (omega (arith, twice, pow-suc 2 d)) in
      let whole : 2 * k - 1 + 1 ≡ 2 * k = omega arith in
      let parts = ap (λ x. x * g) whole in
      let product = ap (λ x. k * x) twice in
      let low = quotient_is n g (2 * k - 1) (omega arith) (omega arith) in
      let high = quotient_is (suc n) f k (omega arith) (omega (arith, some_g)) in
      let stair = stays_stair k some (suc n) (multiple_counted k some (suc n) (suc n) f k (omega arith)
      (omega arith) other last (omega (arith, grain_tight k some other))) in
      omega (arith, count_more (is_stair k) n true stair, before, low, high, ap (λ x. x * k) next)

  -- k jobs have grain 1
  first_grain : (n e : ℕ) → n ≡ k → IsGrain k n (2 ^ e) → 2 ^ e ≡ 1
  first_grain n e last is =
      let under = lt_of_mul-lt-mul_right k {m = 2 ^ e} {n = 2} (omega (arith, is.fits)) in
      omega (arith, grain_some k some is)

  -- up to n jobs, whose grain is 2^e, there are e × k + n / 2^e stairs
  pub stairs_counted : (n e : ℕ) → k ≤ n → IsGrain k n (2 ^ e) → StairsUpTo n e
  stairs_counted zero e enough is = absurd (omega arith)
  stairs_counted (suc n) e enough is = elim (cases_lt n k) [
    | inl first ↦
        let one = first_grain (suc n) e (omega arith) is in
        let none : e ≡ 0 = omega (arith, below_power e) in
        let single = ap (λ x. suc n * x) one in
        let same = quotient_is (suc n) (2 ^ e) (suc n) (omega arith) (omega arith) in
        omega (arith, few_counted (suc n) (omega arith), same, ap (λ x. x * k) none)
    | inr enough ↦
        let one = grain_is k some n enough in
        let d = one.power.0 in
        let one_is = subst (IsGrain k n) one.power.1 one in
        let before = stairs_counted n d enough one_is in
        elim (cases_order d e) [
          | inl same ↦
              let same_is = subst (λ x. IsGrain k (suc n) (2 ^ x)) (sym same) is in
              subst (StairsUpTo (suc n)) same (same_grain n d enough one_is same_is before)
          | inr other ↦
              ⊎_elim (λ more. coarser_grain n d e enough one_is is more before)
              (λ less. absurd (omega (
                arith,
                is.greatest d (omega (arith, one_is.fits)),
                pow-suc 2 e,
                pow_mono less,
                grain_some k some is,
              )))
              other
        ]
  ]

  -- up to the horizon there are at most 26 × k
  pub few_stairs : (n : ℕ) → n ≤ horizon → count (is_stair k) n ≤ 26 * k
  few_stairs n near = elim (cases_lt n k) [
    | inl few ↦ omega (arith, few_counted n (omega arith))
    | inr enough ↦
        let is = grain_is k some n enough in
        let e = is.power.0 in
        let known = subst (IsGrain k n) is.power.1 is in
        let some_g = grain_some k some known in
        let doublings : e ≤ 24 = elim (cases_lt 24 e) [
          | inl more ↦
              absurd (let far : 2 ^ 25 ≤ 2 ^ e = pow_mono more in
              omega (arith, known.fits, mul-le 1 (2 ^ e) k (2 ^ e) some (omega arith)))
          | inr less ↦ less
        ] in
        let multiples = lt_of_mul-lt-mul_right (2 ^ e) {m = n / 2 ^ e} {n = 2 * k}
        (omega (arith, grain_tight k some known, div-add-mod' n (2 ^ e))) in
        omega (arith, stairs_counted n e enough known, mul-le e k 24 k doublings (omega arith))
  ]
