-- The grain of a number of jobs at an accuracy.
use Rattle.std.specs.Prelude.{◌≡◌, ℕ, zero, suc, ◌*◌, ◌^◌, ◌<◌, ◌≤◌, ◌⊎◌, nat_le, refl}
use Rattle.std.proofs.Common.{subst, ⊎_elim, inl, inr, arith}
use Rattle.std.proofs.Math.Nat.{pow-suc}
use Rattle.std.proofs.Math.Pow.{pow_mono, pow-lt}
use Rattle.std.proofs.lemmas.Nat.{mul-le, pow_pos}
use Rattle.std.proofs.lemmas.Bool.{cases_lt, cases_order, cond_both, leb-false, leb-true}
use Rattle.bounds.specs.Stairs.{IsGrain, grain, greatest_power}

-- the powers of two pass their exponents
pub below_power : (n : ℕ) → n < 2 ^ n
below_power zero = pow_pos zero
below_power (suc n) = omega (arith, below_power n, pow-suc 2 n)

-- a power of two has one exponent
pub same_exponent : (d e : ℕ) → 2 ^ d ≡ 2 ^ e → d ≡ e
same_exponent d e same =
    ⊎_elim (λ is. is)
    (λ other. absurd (⊎_elim (λ low. omega (arith, pow-lt low)) (λ low. omega (arith, pow-lt low)) other))
    (cases_order d e)

module _ (k : ℕ) (some : 1 ≤ k) where
  -- g is the greatest of the powers of two up to 2^e that fit n
  record IsTop (n e g : ℕ) : Type 0 where
    power : (d : ℕ) × (g ≡ 2 ^ d)
    fits : k * g ≤ n
    greatest : (d : ℕ) → d ≤ e → k * 2 ^ d ≤ n → 2 ^ d ≤ g

  -- that is the one which is found
  top_found : (n e : ℕ) → k ≤ n → IsTop n e (greatest_power k n e)
  unfolding greatest_power
  top_found n zero enough =
      record {
        power = (0, refl);
        fits = omega arith;
        greatest = λ d low _. pow_mono low;
      }
  top_found n (suc e) enough =
      cond_both (nat_le (k * 2 ^ suc e) n) (2 ^ suc e) (greatest_power k n e) (λ g. IsTop n (suc e) g)
      (λ fits. record {
        power = (suc e, refl);
        fits = leb-true (k * 2 ^ suc e) n fits;
        greatest = λ d low _. pow_mono low;
      })
      (λ over.
      let before = top_found n e enough in
      record {
        power = before.power;
        fits = before.fits;
        greatest = λ d low fits. elim (cases_lt e d) [
          | inl last ↦
              absurd (let more = mul-le k (2 ^ suc e) k (2 ^ d) (omega arith) (pow_mono last) in
              omega (arith, more, leb-false (k * 2 ^ suc e) n over))
          | inr early ↦ before.greatest d early fits
        ];
      })

  -- so the grain is what is said of it
  pub grain_is : (n : ℕ) → k ≤ n → IsGrain k n (grain k n)
  grain_is n enough =
      let top = top_found n n enough in
      record {
        power = top.power;
        fits = top.fits;
        greatest = λ d fits. elim (cases_lt n d) [
          | inl far ↦
              absurd (let more = mul-le 1 (2 ^ d) k (2 ^ d) some (omega arith) in
              omega (arith, more, below_power d))
          | inr near ↦ top.greatest d near fits
        ];
      }

  -- a grain is at least 1
  pub grain_some : {n g : ℕ} → IsGrain k n g → 1 ≤ g
  grain_some is = omega (arith, is.power.1, pow_pos is.power.0)

  -- twice the grain does not fit
  pub grain_tight : {n g : ℕ} → IsGrain k n g → n < k * (2 * g)
  grain_tight {n} {g} is = elim (cases_lt n (k * (2 * g))) [
    | inl under ↦ under
    | inr over ↦
        absurd (let (e, power) = is.power in
        let twice : 2 * g ≡ 2 ^ suc e = omega (arith, power, pow-suc 2 e) in
        omega (arith, is.greatest (suc e) (subst (λ x. k * x ≤ n) twice over), twice, grain_some is))
  ]

  -- a power of two that fits and that does not fit twice is the grain
  pub grain_by : {n g : ℕ} (e : ℕ) → g ≡ 2 ^ e → k * g ≤ n → n < k * (2 * g) → IsGrain k n g
  grain_by {n} {g} e power fits tight =
      record {
        power = (e, power);
        fits = fits;
        greatest = λ d within. elim (cases_lt e d) [
          | inl more ↦
              absurd (let twice : 2 * g ≤ 2 ^ d = omega (arith, power, pow-suc 2 e, pow_mono more) in
              omega (arith, mul-le k (2 * g) k (2 ^ d) (omega arith) twice))
          | inr less ↦ omega (arith, power, pow_mono less)
        ];
      }

  -- the grain of more jobs is the same, or at least twice as coarse
  pub grains_part : {n m g f : ℕ} → IsGrain k n g → IsGrain k m f → n ≤ m → (g ≡ f) ⊎ (2 * g ≤ f)
  grains_part {n} {m} {g} {f} one other order = elim (cases_lt g f) [
    | inl less ↦
        inr (elim (cases_lt one.power.0 other.power.0) [
          | inl early ↦ omega (arith, one.power.1, other.power.1, pow-suc 2 one.power.0, pow_mono early)
          | inr late ↦ absurd (omega (arith, one.power.1, other.power.1, pow_mono late))
        ])
    | inr more ↦
        inl (let within = subst (λ x. k * x ≤ m) one.power.1 (omega (arith, one.fits)) in
        omega (arith, other.greatest one.power.0 within, one.power.1))
  ]

  -- a number of jobs has one grain
  pub grain_unique : {n g f : ℕ} → IsGrain k n g → IsGrain k n f → g ≡ f
  grain_unique {n} {g} {f} one other =
      ⊎_elim (λ is. is)
      (λ (twice : 2 * g ≤ f).
      absurd (omega (arith, grain_tight one, other.fits, mul-le k (2 * g) k f (omega arith) twice)))
      (grains_part one other (omega arith))
