-- A more accurate linear tail is nowhere above a less accurate one.
use Rattle.std.proofs.Common.{◌≡◌, ℕ, ◌+◌, ◌-◌, ◌*◌, ◌/◌, ◌≤◌, true, arith}
use Rattle.std.proofs.lemmas.Nat.{mul-le}
use Rattle.std.proofs.lemmas.Bool.{cond_both, le-leb, leb-true}
use Rattle.rows.specs.declared.tasks.Row.{Row}
use Rattle.rows.specs.Counting.{steps, window}
use Rattle.bounds.specs.Supplied.{line, linear_tail}
use Rattle.bounds.specs.Tails.{is_exact}
use Rattle.bounds.specs.Lemmas.Asking.{asked_tells}
use Rattle.bounds.specs.Lemmas.Lines.{below_line}
use Rattle.findings.specs.Demand.{load, is_rest}
use Rattle.findings.specs.Findings.{first_rest}
use Rattle.brackets.specs.Bracketing.{FinerIsNoLater}
use Rattle.brackets.proofs.Earlier.{no_later}
use Rattle.brackets.proofs.Bracket.{all_asked, rests_by_less, window_near}

module _ (k k' : ℕ) (order : k ≤ k') (h : ℕ) (r : Row) (t : ℕ) where
  -- a more accurate tail is exact for no less
  exact_longer : is_exact (k - 1) r t ≡ true → is_exact (k' - 1) r t ≡ true
  exact_longer before =
      let begin = mul-le (k - 1) r.period (k' - 1) r.period (omega arith) (omega arith) in
      le-leb (t + r.jitter) ((k' - 1) * r.period) (omega (arith, leb-true (t + r.jitter) ((k - 1) * r.period) before))

  -- the amount of a more accurate tail is nowhere larger
  finer_amount : h / r.period * r.period ≡ h → (linear_tail k').amount h r t ≤ (linear_tail k).amount h r t
  finer_amount divides =
      cond_both (is_exact (k - 1) r t) (h * steps r t) (line h r t) (λ x. (linear_tail k').amount h r t ≤ x)
      (λ before. rw (exact_longer before) (omega arith)) (λ _. below_line h r t divides k')

-- a row that rests by a tail rests by every more accurate one, no later
pub finer_tails : FinerIsNoLater
unfolding first_rest
finer_tails k k' h r above _ order stands =
    no_later (is_rest (load (linear_tail k') h.ticks r.work above))
    (is_rest (load (linear_tail k) h.ticks r.work above)) (window r)
    (λ t _ within.
    let finer = all_asked h.ticks above t stands (window_near r t within)
    (λ s. (linear_tail k').amount h.ticks s t ≤ (linear_tail k).amount h.ticks s t)
    (λ s ask. finer_amount k k' order h.ticks s t (asked_tells h.ticks s t ask).divides) in
    rests_by_less (linear_tail k') (linear_tail k) h.ticks r.work above t finer)
