-- What is counted for n jobs: no fewer than n, few more, and never fewer for more jobs.
use Rattle.std.specs.Prelude.{◌≡◌, ℕ, ◌+◌, ◌*◌, ◌≤◌, false, ltb, nat_lt}
use Rattle.std.proofs.Common.{arith}
use Rattle.std.proofs.lemmas.Nat.{mul-le}
use Rattle.std.proofs.lemmas.Bool.{ltb-false, le-ltb, cond_both}
use Rattle.rows.specs.Times.{ceiling}
use Rattle.rows.proofs.Ceiling.{ceiling_covers, ceiling_tight, ceiling_grows}
use Rattle.batches.specs.Batching.{Parameters, batch_count}

module _ (p : Parameters) (some : 1 ≤ p.size) where
  abbrev k : ℕ
  k = p.accuracy

  abbrev g : ℕ
  g = p.size

  -- every job is counted
  pub count_covers : (n : ℕ) → n ≤ batch_count p n
  count_covers n =
      cond_both (nat_lt n (k * g)) n (ceiling n g * g) (λ x. n ≤ x) (λ _. omega arith) (λ _. ceiling_covers n g some)

  -- for k jobs at most k + 1 are counted: rounding up adds less than a batch, and only where k batches are full
  pub count_close : (n : ℕ) → k * batch_count p n ≤ (k + 1) * n
  count_close n =
      cond_both (nat_lt n (k * g)) n (ceiling n g * g) (λ x. k * x ≤ (k + 1) * n) (λ _. omega arith) many_close
    where
      many_close : ltb n (k * g) ≡ false → k * (ceiling n g * g) ≤ (k + 1) * n
      many_close many =
          let tight = ceiling_tight n g some in
          omega (arith, ltb-false n (k * g) many, mul-le k (ceiling n g * g) k (n + g) (omega arith) (omega arith))

  -- for more jobs no fewer are counted
  pub count_grows : (m n : ℕ) → m ≤ n → batch_count p m ≤ batch_count p n
  count_grows m n order =
      cond_both (nat_lt m (k * g)) m (ceiling m g * g) (λ x. x ≤ batch_count p n) (λ _. omega (arith, count_covers n))
      (λ many. rw (le-ltb n (k * g) (omega (arith, ltb-false m (k * g) many)))
      (mul-le (ceiling m g) g (ceiling n g) g (ceiling_grows m n g some order) (omega arith)))
