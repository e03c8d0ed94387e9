-- The laws of bounds that are exact at first, from what their late part owes.
use Rattle.std.specs.Prelude.{◌≡◌, ℕ, ◌+◌, ◌-◌, ◌*◌, ◌<◌, ◌≤◌, true, false, refl}
use Rattle.std.proofs.Common.{⊎_elim, arith}
use Rattle.std.proofs.lemmas.Bool.{leb-false, cond_both, cases_Bool}
use Rattle.rows.specs.declared.tasks.Row.{Row}
use Rattle.rows.specs.Times.{horizon}
use Rattle.rows.specs.Counting.{steps, is_rise}
use Rattle.bounds.specs.Laws.{Laws}
use Rattle.bounds.specs.Meaning.{is_asked}
use Rattle.bounds.specs.Tails.{Shape, LateLaws, is_exact, tail}
use Rattle.bounds.specs.Lemmas.Asking.{asked_then, asked_tells}
use Rattle.bounds.specs.Lemmas.Corners.{earlier_exact, later_late, rest_exact, still_exact, few_corners}
use Rattle.bounds.specs.Lemmas.ExactLaws.{exact_bends}

module _ (s : Shape) (laws : LateLaws s) (h : ℕ) (r : Row) (t : ℕ) (ask : is_asked h r t ≡ true) where
  -- the amount at an instant
  abbrev amount : ℕ → ℕ
  amount = (tail s).amount h r

  -- the amount is nowhere above the late one
  pub below_late : amount t ≤ s.late h r t
  below_late =
      cond_both (is_exact s.exact r t) (h * steps r t) (s.late h r t) (λ x. x ≤ s.late h r t)
      (λ _. laws.covers h r t ask) (λ _. omega arith)

  -- up to the last exact release the amount bends upward only where steps rise
  exact_at : 1 ≤ t → is_rise r t ≡ false → is_exact s.exact r t ≡ true
      → amount (t - 1) + amount (t + 1) ≤ 2 * amount t
  exact_at late rest exact =
      rw (earlier_exact s.exact r (t - 1) t (omega arith) exact, exact, still_exact s.exact r t late rest exact)
      (exact_bends h r t late rest)

module _ (s : Shape) (laws : LateLaws s) (h : ℕ) (r : Row) (t : ℕ) (ask : is_asked h r t ≡ true) where
  -- past it the amount does not bend upward at all
  late_at : 1 ≤ t → t < horizon → is_exact s.exact r t ≡ false
      → (tail s).amount h r (t - 1) + (tail s).amount h r (t + 1) ≤ 2 * (tail s).amount h r t
  late_at some near past =
      let known = asked_tells h r t ask in
      let before = below_late s laws h r (t - 1) (asked_then h r t (t - 1) ask (omega (arith, known.near))) in
      let bent = laws.bends h r t ask some near (leb-false (t + r.jitter) (s.exact * r.period) past) in
      rw (past, later_late s.exact r t (t + 1) (omega arith) past) (omega arith)

-- such a bound shows every law
pub tail_laws : (s : Shape) → LateLaws s → Laws (tail s)
tail_laws s laws =
    record {
      covers = λ h r t ask.
          cond_both (is_exact s.exact r t) (h * steps r t) (s.late h r t) (λ x. h * steps r t ≤ x) (λ _. omega arith)
          (λ _. laws.covers h r t ask);
      close = λ h r t ask.
          cond_both (is_exact s.exact r t) (h * steps r t) (s.late h r t)
          (λ x. s.accuracy * x ≤ (s.accuracy + 1) * (h * steps r t)) (λ _. omega arith)
          (λ past. laws.close h r t ask (leb-false (t + r.jitter) (s.exact * r.period) past));
      some_accuracy = laws.some_accuracy;
      most_accuracy = laws.most_accuracy;
      bends = λ h r t ask some near rest. ⊎_elim
          (λ early. exact_at s laws h r t ask some (rest_exact s.exact r t rest early) early)
          (λ past. late_at s laws h r t ask some near past)
          (cases_Bool (is_exact s.exact r t));
      starts = λ r. refl;
      few = λ r. (few_corners s.exact r horizon).0;
    }
