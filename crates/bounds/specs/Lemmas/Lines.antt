-- Straight lines that lie on or above the steps of a row.
use Rattle.std.specs.Prelude.{◌≡◌, ℕ, zero, suc, ◌+◌, ◌-◌, ◌*◌, ◌/◌, ◌<◌, ◌≤◌}
use Rattle.std.proofs.Common.{sym, ap, ◌∙◌, lt_of_mul-lt-mul_right, arith}
use Rattle.std.proofs.lemmas.Nat.{mul-le}
use Rattle.std.proofs.lemmas.Bool.{cond_both}
use Rattle.rows.specs.declared.tasks.Row.{Row}
use Rattle.rows.specs.Times.{ceiling}
use Rattle.rows.specs.Counting.{steps}
use Rattle.rows.proofs.Ceiling.{ceiling_covers, ceiling_tight}
use Rattle.bounds.specs.Supplied.{line, linear_tail}
use Rattle.bounds.specs.Tails.{is_exact}

-- the work of a row, for each of its periods in the frame
abbrev pub share : ℕ → Row → ℕ
share h r = r.work * (h / r.period)

-- the line is straight
pub line_straight : (h : ℕ) (r : Row) (t : ℕ) → 1 ≤ t → line h r (t - 1) + line h r (t + 1) ≡ 2 * line h r t
line_straight h r zero late = absurd (omega arith)
line_straight h r (suc t) _ = let e : suc t - 1 ≡ t = omega arith in rw e (omega arith)

module _ (h : ℕ) (r : Row) (t : ℕ) (divides : h / r.period * r.period ≡ h) where
  -- the steps on a frame are a multiple of the share
  pub steps_shared : h * steps r t ≡ share h r * (r.period * ceiling (t + r.jitter) r.period)
  steps_shared = ap (λ n. n * steps r t) (sym divides) ∙ omega arith

  -- the line is so many shares, too
  pub line_shared : line h r t ≡ share h r * (r.period + (t + r.jitter))
  line_shared = ap (λ n. n * r.work + (t + r.jitter) * r.work * (h / r.period)) (sym divides) ∙ omega arith

  -- the line is nowhere below the steps
  pub line_covers : h * steps r t ≤ line h r t
  line_covers =
      let tight = ceiling_tight (t + r.jitter) r.period (omega arith) in
      rw (steps_shared, line_shared) (mul-le (share h r) _ (share h r) _ (omega arith) (omega arith))

  -- past n releases the line is at most (k + 1) / k times the steps, for every k up to n + 1
  pub line_close : (n k : ℕ) → n * r.period < t + r.jitter → k ≤ n + 1
      → k * line h r t ≤ (k + 1) * (h * steps r t)
  line_close n k late fine =
      let jobs = ceiling (t + r.jitter) r.period in
      let covers = ceiling_covers (t + r.jitter) r.period (omega arith) in
      let many = lt_of_mul-lt-mul_right r.period {m = n} {n = jobs} (omega arith) in
      let lead = mul-le k r.period jobs r.period (omega arith) (omega arith) in
      let rest = mul-le k (t + r.jitter) k (jobs * r.period) (omega arith) covers in
      let both = mul-le (share h r) (k * (r.period + (t + r.jitter))) (share h r) ((k + 1) * (r.period * jobs))
      (omega arith) (omega arith) in
      rw (steps_shared, line_shared) (omega arith)

  -- and no amount of a linear tail is above it
  pub below_line : (k : ℕ) → (linear_tail k).amount h r t ≤ line h r t
  below_line k =
      cond_both (is_exact (k - 1) r t) (h * steps r t) (line h r t) (λ x. x ≤ line h r t) (λ _. line_covers)
      (λ _. omega arith)
