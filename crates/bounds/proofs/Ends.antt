-- The corners of a bound that is exact at first: the rises up to its last exact instant.
use Rattle.std.proofs.Common.{◌≡◌, ℕ, ◌+◌, ◌-◌, ◌*◌, ◌<◌, ◌≤◌, false, min, inl, inr, sym, ◌∙◌, arith}
use Rattle.std.specs.Prelude.{◌&&◌, Bool}
use Rattle.std.proofs.Math.Bool.{and-true}
use Rattle.std.proofs.lemmas.Bool.{cases_lt, le-leb, lt-leb, and_right}
use Rattle.rows.specs.declared.tasks.Row.{Row}
use Rattle.rows.specs.Times.{horizon}
use Rattle.rows.specs.Counting.{is_rise}
use Rattle.bounds.specs.Instants.{least}
use Rattle.bounds.specs.Marks.{up_to}
use Rattle.bounds.specs.Tails.{is_exact}
use Rattle.bounds.proofs.Marking.{least_same, up_to_past, up_to_not}

module _ (n : ℕ) (r : Row) (last : ℕ) (end : last ≡ min (n * r.period - r.jitter) horizon) where
  -- the corners of the row
  abbrev corner : ℕ → Bool
  corner t = is_rise r t && is_exact n r t

  -- past the last exact instant there is none
  none : (t : ℕ) → 1 ≤ t → last < t → up_to horizon corner t ≡ false
  none t late past = elim (cases_lt horizon t) [
    | inl far ↦ up_to_past corner horizon t far
    | inr near ↦
        up_to_not corner horizon t
        (and_right (is_rise r t) (is_exact n r t) (lt-leb (t + r.jitter) (n * r.period) (omega (arith, end))))
  ]

  -- up to it they are the rises
  pub corners_are_rises : (t : ℕ) → 1 ≤ t → up_to last (is_rise r) t ≡ up_to horizon corner t
  corners_are_rises t late = elim (cases_lt last t) [
    | inl past ↦ up_to_past (is_rise r) last t past ∙ sym (none t late past)
    | inr near ↦
        rw (
          le-leb t last near,
          le-leb t horizon (omega (arith, end)),
          le-leb (t + r.jitter) (n * r.period) (omega (arith, end)),
        )
        (sym (and-true (is_rise r t)))
  ]

  -- so the first corner after an instant is the first such rise
  pub first_is_rise : (s : ℕ)
      → least (is_rise r) (last - s) (s + 1) ≡ least corner (horizon - s) (s + 1)
  first_is_rise s = least_same (is_rise r) corner last horizon s (λ i low. corners_are_rises i (omega arith))
