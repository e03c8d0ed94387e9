-- Numbers of jobs rounded up on their grain: it never falls, adds less than a grain, and leaves stairs as they are.
use Rattle.std.specs.Prelude.{◌≡◌, ℕ, ◌+◌, ◌*◌, ◌<◌, ◌≤◌, ◌==◌, ◌||◌, true, false, nat_le}
use Rattle.std.proofs.Common.{sym, ap, ◌∙◌, subst, inl, inr, lt_of_mul-lt-mul_right, arith}
use Rattle.std.proofs.Math.Nat.{le_of_mul-le-mul_left}
use Rattle.std.proofs.lemmas.Nat.{mul-le}
use Rattle.std.proofs.lemmas.Bool.{cases_lt, cond-true, cond-false, le-leb, lt-leb, or_right}
use Rattle.std.proofs.lemmas.Bool.{or_from, eqb-true, eq-eqb, ne_eqb}
use Rattle.rows.specs.Times.{ceiling}
use Rattle.rows.proofs.Ceiling.{ceiling_covers, ceiling_grows, ceiling_is, ceiling_tight}
use Rattle.bounds.specs.Instants.{IsFirst}
use Rattle.bounds.specs.Stairs.{IsGrain, grain, is_stair, rounded}
use Rattle.bounds.specs.Lemmas.Grains.{grain_is, grain_some, grain_tight, grain_unique, grains_part}

-- a multiple of g is rounded up to itself
multiple_stays : (q g : ℕ) → 1 ≤ g → ceiling (q * g) g * g ≡ q * g
multiple_stays q g some = ap (λ x. x * g) (ceiling_is (q * g) g q some (omega arith) (omega arith))

module _ (k : ℕ) (some : 1 ≤ k) where
  -- few jobs are counted as they are
  pub rounded_few : (n : ℕ) → n ≤ k → rounded k n ≡ n
  rounded_few n few = cond-true (nat_le n k) n (ceiling n (grain k n) * grain k n) (le-leb n k few)

  -- more are rounded up on their grain
  pub rounded_many : (n g : ℕ) → k < n → IsGrain k n g → rounded k n ≡ ceiling n g * g
  rounded_many n g many is =
      cond-false (nat_le n k) n (ceiling n (grain k n) * grain k n) (lt-leb n k many)
      ∙ ap (λ x. ceiling n x * x) (grain_unique k some (grain_is k some n (omega arith)) is)

  -- no fewer jobs are counted than there are
  pub rounded_covers : (n : ℕ) → n ≤ rounded k n
  rounded_covers n = elim (cases_lt k n) [
    | inl many ↦
        let is = grain_is k some n (omega arith) in
        omega (arith, rounded_many n (grain k n) many is, ceiling_covers n (grain k n) (grain_some k some is))
    | inr few ↦ omega (arith, rounded_few n few)
  ]

  -- and less than a grain more
  pub rounded_near : (n g : ℕ) → k ≤ n → IsGrain k n g → rounded k n < n + g
  rounded_near n g enough is = elim (cases_lt k n) [
    | inl many ↦ omega (arith, rounded_many n g many is, ceiling_tight n g (grain_some k some is))
    | inr few ↦ omega (arith, rounded_few n few, grain_some k some is)
  ]

  -- so for k jobs at most k + 1 are counted
  pub rounded_close : (n : ℕ) → k * rounded k n ≤ (k + 1) * n
  rounded_close n = elim (cases_lt k n) [
    | inl many ↦
        let is = grain_is k some n (omega arith) in
        let near = rounded_near n (grain k n) (omega arith) is in
        omega (arith, is.fits, mul-le k (rounded k n) k (n + grain k n) (omega arith) (omega arith))
    | inr few ↦ omega (arith, ap (λ x. k * x) (rounded_few n few))
  ]

  -- and never more than twice as many
  pub rounded_twice : (n : ℕ) → rounded k n ≤ 2 * n
  rounded_twice n =
      let more = mul-le 1 n k n some (omega arith) in
      le_of_mul-le-mul_left {m = rounded k n} {n = 2 * n} {k = k} (omega (arith, rounded_close n, more)) some

  -- the number that is counted is at most the least one that has a coarser grain
  pub rounded_below : (n g : ℕ) → k < n → IsGrain k n g → rounded k n ≤ k * (2 * g)
  rounded_below n g many is =
      let fewer = lt_of_mul-lt-mul_right g {m = ceiling n g} {n = 2 * k + 1}
      (omega (arith, grain_tight k some is, ceiling_tight n g (grain_some k some is))) in
      omega (arith, rounded_many n g many is, mul-le (ceiling n g) g (2 * k) g (omega arith) (omega arith))

  -- for more jobs no fewer are counted
  pub rounded_grows : (n m : ℕ) → n ≤ m → rounded k n ≤ rounded k m
  rounded_grows n m order = elim (cases_lt k n) [
    | inl many ↦
        let one = grain_is k some n (omega arith) in
        let other = grain_is k some m (omega arith) in
        let g = grain k n in
        elim (grains_part k some one other order) [
          | inl same ↦
              let grows = mul-le (ceiling n g) g (ceiling m g) g
              (ceiling_grows n m g (grain_some k some one) order) (omega arith) in
              omega (
                arith,
                grows,
                rounded_many n g many one,
                rounded_many m g (omega arith) (subst (IsGrain k m) (sym same) other),
              )
          | inr twice ↦
              omega (
                arith,
                rounded_below n g many one,
                other.fits,
                rounded_covers m,
                mul-le k (2 * g) k (grain k m) (omega arith) twice,
              )
        ]
    | inr few ↦ omega (arith, rounded_few n few, rounded_covers m)
  ]

  -- a multiple m of the grain of n is counted as it is, up to the least number that has a coarser grain
  pub multiple_counted : (n m g q : ℕ) → k < m → n ≤ m → IsGrain k n g → m ≡ q * g → m ≤ k * (2 * g)
      → rounded k m ≡ m
  multiple_counted n m g q many order is multiple below =
      let coarser = grain_is k some m (omega arith) in
      let f = grain k m in
      elim (grains_part k some is coarser order) [
        | inl same ↦
            rounded_many m g many (subst (IsGrain k m) (sym same) coarser)
            ∙ ap (λ x. ceiling x g * g) multiple ∙ multiple_stays q g (grain_some k some is) ∙ sym multiple
        | inr twice ↦
            let last : m ≡ k * f =
            omega (arith, coarser.fits, mul-le k (2 * g) k f (omega arith) twice) in
            rounded_many m f many coarser
            ∙ ap (λ x. ceiling x f * f) last ∙ multiple_stays k f (grain_some k some coarser) ∙ sym last
      ]

  -- what is counted is counted as it is
  pub rounded_stays : (n : ℕ) → rounded k (rounded k n) ≡ rounded k n
  rounded_stays n = elim (cases_lt k n) [
    | inl many ↦
        let is = grain_is k some n (omega arith) in
        let g = grain k n in
        multiple_counted n (rounded k n) g (ceiling n g) (omega (arith, rounded_covers n)) (rounded_covers n) is
        (rounded_many n g many is) (rounded_below n g many is)
    | inr few ↦ ap (rounded k) (rounded_few n few)
  ]

  -- a stair is counted as it is, and what is counted as it is is a stair
  pub stair_stays : (n : ℕ) → is_stair k n ≡ true → rounded k n ≡ n
  stair_stays n stair = elim (cases_lt k n) [
    | inl many ↦
        eqb-true (rounded k n) n
        (sym (ap (λ b. b || (rounded k n == n)) (lt-leb n k many)) ∙ stair)
    | inr few ↦ rounded_few n few
  ]

  pub stays_stair : (n : ℕ) → rounded k n ≡ n → is_stair k n ≡ true
  stays_stair n stays = or_right (nat_le n k) (rounded k n == n) (eq-eqb (rounded k n) n stays)

  -- where more are counted than there are, there is none
  pub no_stair : (n : ℕ) → n < rounded k n → is_stair k n ≡ false
  no_stair n more = elim (cases_lt k n) [
    | inl many ↦
        or_from (nat_le n k) (rounded k n == n) (lt-leb n k many)
        (ne_eqb (rounded k n) n (λ same. omega arith))
    | inr few ↦ absurd (omega (arith, rounded_few n few))
  ]

  -- the first stair after n is what is counted for one job more
  pub next_stair : (n : ℕ) → IsFirst (is_stair k) n (rounded k (n + 1)) (rounded k (n + 1))
  next_stair n =
      record {
        after = omega (arith, rounded_covers (n + 1));
        within = omega arith;
        holds = stays_stair (rounded k (n + 1)) (rounded_stays (n + 1));
        none = λ i low high. no_stair i (omega (arith, rounded_grows (n + 1) i (omega arith)));
      }
