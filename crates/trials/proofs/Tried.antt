-- What is known once one instant, or one row, more is tried.
use Rattle.std.proofs.Common.{◌≡◌, ℕ, ◌+◌, ◌<◌, List, None, subst, sym, ⊎_elim, arith, get_or}
use Rattle.std.proofs.lemmas.Bool.{cases_order}
use Rattle.rows.specs.declared.tasks.Row.{Row}
use Rattle.bounds.specs.Meaning.{Meaning}
use Rattle.trials.specs.Trials.{broken_at, HoldAbove, HoldBefore, HoldOf}

-- what holds of the numbers before e, and of e, holds before the next
before_next : (P : ℕ → Type 0) (e t : ℕ) → ((i : ℕ) → i < e → P i) → P e → t < e + 1 → P t
before_next P e t before here early =
    ⊎_elim (λ (same : t ≡ e). subst P (sym same) here)
    (λ o. before t (⊎_elim (λ l. l) (λ l. absurd (omega arith)) o)) (cases_order t e)

module _ (m : Meaning) where
  -- an instant more
  pub instant_holds : (h : ℕ) (r : Row) (e : ℕ) → HoldBefore m h r e → broken_at m h r e ≡ None
      → HoldBefore m h r (e + 1)
  instant_holds h r e before here t early = before_next (λ i. broken_at m h r i ≡ None) e t before here early

  -- a row more
  pub row_holds : (rows : List Row) (e : ℕ) → HoldAbove m rows e → ((d : Row) → HoldOf m (get_or rows e d))
      → HoldAbove m rows (e + 1)
  row_holds rows e before here k d early =
      before_next (λ i. HoldOf m (get_or rows i d)) e k (λ i low. before i d low) (here d) early
