-- The greatest common divisor of two numbers, and their least common multiple.
use Rattle.std.proofs.Common.{◌≡◌, ℕ, zero, suc, ◌+◌, ◌*◌, ◌/◌, ◌%◌, ◌<◌, ◌≤◌, sym, ap, ◌∙◌, arith}
use Rattle.std.proofs.Math.Nat.{div-mul_cancel, add-mul-mod_self_right, mul-mod_left, mul-div_cancel_left}
use Rattle.std.proofs.lemmas.Bool.{and_from, le-leb}
use Rattle.std.proofs.lemmas.Nat.{div-add-mod', mul-le}
use Rattle.std.proofs.lemmas.Nat.Gcd.{dvd_of_mod-eq-zero, le_of_dvd}
use Rattle.rows.specs.Times.{horizon}
use Rattle.filings.specs.Frames.{IsJoined, CannotBeJoined, DividesBoth}

-- a number that another divides, as a multiple of it
pub is_multiple : (m n : ℕ) → m % n ≡ 0 → m / n * n ≡ m
is_multiple m n divides = div-mul_cancel n (dvd_of_mod-eq-zero n divides)

-- what divides a × k and b × k divides the remainder of a by b, times k
pub remainder_multiplied : (a b p k : ℕ) → a * k % p ≡ 0 → b * k % p ≡ 0 → a % b * k % p ≡ 0
remainder_multiplied a b p k first second =
    let q = a / b in
    let y = b * k / p in
    let split : q * (b * k) + a % b * k ≡ a * k = omega (arith, ap (λ n. n * k) (div-add-mod' a b)) in
    let whole : q * y * p ≡ q * (b * k) = omega (arith, ap (λ n. q * n) (is_multiple (b * k) p second)) in
    let sum : a % b * k + q * y * p ≡ a * k = omega (arith, split, whole) in
    sym (add-mul-mod_self_right (a % b * k) (q * y) p) ∙ ap (λ n. n % p) sum ∙ first

-- of a number that is not 0 and another, a common divisor
module _ (a b g : ℕ) (some : 1 ≤ a) (divides : DividesBoth a b g) where
  -- their least common multiple
  abbrev pub joined : ℕ
  joined = a / g * b

  first_part : a / g * g ≡ a
  first_part = div-mul_cancel g divides.greatest.0

  second_part : b / g * g ≡ b
  second_part = div-mul_cancel g divides.greatest.1

  pub positive : 1 ≤ g
  positive = at g first_part
    where
      at : (d : ℕ) → a / d * d ≡ a → 1 ≤ d
      at zero none = absurd (omega (arith, none, some))
      at (suc d) none = omega arith

  is_of_first : joined ≡ b / g * a
  is_of_first =
      let left : a / g * (b / g * g) ≡ joined = ap (λ n. a / g * n) second_part in
      let right : b / g * (a / g * g) ≡ b / g * a = ap (λ n. b / g * n) first_part in
      omega (arith, left, right)

  -- divides every common multiple
  pub divides_each : (m : ℕ) → m % a ≡ 0 → m % b ≡ 0 → m % joined ≡ 0
  divides_each m of_a of_b =
      let p = a * b in
      let firsts : a * m ≡ m / b * p = omega (arith, ap (λ n. a * n) (is_multiple m b of_b)) in
      let seconds : b * m ≡ m / a * p = omega (arith, ap (λ n. b * n) (is_multiple m a of_a)) in
      let by_first : a * m % p ≡ 0 = ap (λ n. n % p) firsts ∙ mul-mod_left (m / b) p in
      let by_second : b * m % p ≡ 0 = ap (λ n. n % p) seconds ∙ mul-mod_left (m / a) p in
      let t = g * m / p in
      let multiple : t * p ≡ g * m = is_multiple (g * m) p (divides.multiplied p m by_first by_second) in
      let product : p ≡ g * joined = omega (arith, ap (λ n. n * b) first_part) in
      let taken : g * m ≡ g * (t * joined) = omega (arith, multiple, ap (λ n. t * n) product) in
      let is : m ≡ t * joined =
      sym (mul-div_cancel_left m positive) ∙ ap (λ n. n / g) taken ∙ mul-div_cancel_left (t * joined) positive in
      ap (λ n. n % joined) is ∙ mul-mod_left t joined

  -- where it is no greater than the horizon, it is a frame
  pub joined_is : 1 ≤ b → joined ≤ horizon → IsJoined a b joined
  joined_is more near =
      let low : 1 * 1 ≤ joined = mul-le 1 1 (a / g) b (at (a / g) first_part) more in
      record {
        frame = and_from _ _ (le-leb 1 joined (omega (arith, low))) (le-leb joined horizon near);
        first = ap (λ n. n % a) is_of_first ∙ mul-mod_left (b / g) a;
        second = mul-mod_left (a / g) b;
        each = divides_each;
      }
    where
      at : (n : ℕ) → n * g ≡ a → 1 ≤ n
      at zero none = absurd (omega (arith, none, some))
      at (suc n) none = omega arith

  -- where the joined multiple is above the horizon, no number up to there is a common multiple
  pub never_joined : horizon < joined → CannotBeJoined a b
  never_joined far m low near of_a of_b =
      let least : joined ≤ m = le_of_dvd (omega arith) (dvd_of_mod-eq-zero joined (divides_each m of_a of_b)) in
      omega (arith, least)
