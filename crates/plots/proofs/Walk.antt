-- Test points counted one after the other, and told apart from other instants.
use Rattle.std.proofs.Common.{◌≡◌, ℕ, ◌+◌, ◌<◌, ◌≤◌, Bool, false, List, slice_index_or, refl, arith}
use Rattle.std.proofs.lemmas.List.Folds.{list_any_none}
use Rattle.rows.specs.declared.tasks.Row.{Row}
use Rattle.bounds.specs.Instants.{IsFirst, count}
use Rattle.bounds.specs.Laws.{Laws}
use Rattle.bounds.specs.Lemmas.Instants.{count_first}
use Rattle.bounds.specs.Meaning.{Meaning}
use Rattle.findings.specs.Points.{is_test_point}

-- none of no instants counts
pub count_none : (p : ℕ → Bool) → count p 0 ≡ 0
unfolding count
count_none p = refl

-- up to the next one there is one more
pub count_next : (p : ℕ → Bool) (s e t n : ℕ) → IsFirst p s e t → n ≡ count p s → n + 1 ≡ count p t
count_next p s e t n first counted = let more = count_first p s e t first in omega arith

-- 0 is none, where the window is not empty
pub none_at_start : (m : Meaning) (above : List Row) (last t : ℕ) → Laws m → 1 ≤ last → t < 1
    → is_test_point m above last t ≡ false
none_at_start m above last t laws some start =
    let none = list_any_none (λ r. m.is_corner r 0) above (λ k d few. laws.starts (slice_index_or above k d)) in
    let zero : t ≡ 0 = omega (arith, start) in
    rw zero (grind (arith, none, some))
