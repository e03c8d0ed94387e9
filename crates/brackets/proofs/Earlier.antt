-- First rests that come no later than others.
use Rattle.std.proofs.Common.{◌≡◌, ℕ, ◌<◌, ◌≤◌, Bool, true, false, is_some, Some, None, Option, refl, subst, ⊎_elim}
use Rattle.std.proofs.Common.{MatchOption}
use Rattle.std.proofs.lemmas.Bool.{both_ways, cases_lt}
use Rattle.bounds.specs.Instants.{least, IsFirst}
use Rattle.bounds.specs.Lemmas.Instants.{least_up_to}
use Rattle.brackets.specs.Bracketing.{IsNoLater}

-- o is the least of the instants 1 to n at which p holds
abbrev LeastTo : (ℕ → Bool) → ℕ → Option ℕ → Type 0
LeastTo p n o = MatchOption o ((i : ℕ) → 1 ≤ i → i ≤ n → p i ≡ false) (IsFirst p 0 n)

-- where p holds whenever q does, the least instant of p comes no later than that of q
pub no_later : (p q : ℕ → Bool) (n : ℕ) → ((t : ℕ) → 1 ≤ t → t ≤ n → q t ≡ true → p t ≡ true)
    → IsNoLater (least p n 1) (least q n 1)
no_later p q n implies = at (least p n 1) (least q n 1) (least_up_to p n) (least_up_to q n)
  where
    at : (a b : Option ℕ) → LeastTo p n a → LeastTo q n b → IsNoLater a b
    at a None _ _ = tt
    at None (Some t) none first =
        both_ways (p t) (none t first.after first.within) (implies t first.after first.within first.holds)
    at (Some s) (Some t) early first =
        ⊎_elim (λ (over : t < s).
        absurd (both_ways (p t) (early.none t first.after over) (implies t first.after first.within first.holds)))
        (λ (under : s ≤ t). under)
        (cases_lt t s)

-- where a comes no later than b and there is no a, there is no b
pub none_later : (a b : Option ℕ) → IsNoLater a b → a ≡ None → b ≡ None
none_later a None order none = refl
none_later a (Some t) order none = absurd (subst (λ o. IsNoLater o (Some t)) none order)

-- where a comes no later than b and there is a b, there is an a
pub some_earlier : (a b : Option ℕ) → IsNoLater a b → is_some b ≡ true → is_some a ≡ true
some_earlier (Some s) b order some = refl
some_earlier None (Some t) order some = absurd order
some_earlier None None order some = some
