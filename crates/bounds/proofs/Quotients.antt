-- A number divided by a period: by a product and one correction.
use Rattle.std.proofs.Common.{◌≡◌, ℕ, ◌+◌, ◌-◌, ◌*◌, ◌/◌, ◌<◌, ◌≤◌, arith}
use Rattle.std.proofs.lemmas.Nat.{mul-le, div-add-mod', mod_below}
use Rattle.bounds.specs.Lemmas.Quotients.{quotient_is}

module _ (x p : ℕ) (some : 1 ≤ p) where
  -- what the ratio of p tells of the quotient of x
  abbrev pub told : ℕ
  told = x * (4294967295 / p) / 4294967296

  -- it is not too high
  pub not_above : told * p ≤ x
  not_above =
      let m = 4294967295 / p in
      let ratio = div-add-mod' 4294967295 p in
      let low = div-add-mod' (x * m) 4294967296 in
      let times = mul-le (told * 4294967296) p (x * m) p (omega arith) (omega arith) in
      let whole = mul-le x (m * p) x 4294967295 (omega arith) (omega arith) in
      omega (arith, times, whole)

  -- and at most one too low
  pub not_below : x < 4294967296 → x < (told + 2) * p
  not_below small =
      let m = 4294967295 / p in
      let ratio = div-add-mod' 4294967295 p in
      let left = mod_below 4294967295 p some in
      let low = div-add-mod' (x * m) 4294967296 in
      let under = mod_below (x * m) 4294967296 (omega arith) in
      let times = mul-le (x * m + 1) p ((told + 1) * 4294967296) p (omega arith) (omega arith) in
      let whole = mul-le x 4294967296 x ((m + 1) * p) (omega arith) (omega arith) in
      let rest = mul-le x p 4294967295 p (omega arith) (omega arith) in
      omega (arith, times, whole, rest)

  -- it is the quotient where less than p is left
  pub is_told : x - told * p < p → told ≡ x / p
  is_told left = quotient_is x p told not_above (omega (arith, not_above))

  -- and else it is one too low
  pub is_next : x < 4294967296 → p ≤ x - told * p → told + 1 ≡ x / p
  is_next small left = quotient_is x p (told + 1) (omega (arith, not_above)) (omega (arith, not_below small))
