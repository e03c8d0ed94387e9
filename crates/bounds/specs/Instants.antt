-- The least instant of a kind, and how many there are.
use Rattle.std.specs.Prelude.{IsTrue, ◌≡◌, ℕ, zero, suc, ◌+◌, ◌<◌, ◌≤◌, Bool, false, Some, None, Option, if◌then◌else◌}

-- the least of the n instants from s on at which p holds
unfoldable pub least : (ℕ → Bool) → ℕ → ℕ → Option ℕ
least p zero s = None
least p (suc n) s = if p s then Some s else least p n (suc s)

-- how many of the instants 1 to n have p: each instant counts once
unfoldable pub count : (ℕ → Bool) → ℕ → ℕ
count p zero = 0
count p (suc n) = count p n + (if p (suc n) then 1 else 0)

-- t is the first instant after s, up to e, at which p holds
pub record IsFirst (p : ℕ → Bool) (s e t : ℕ) : Type 0 where
  pub after : s < t
  pub within : t ≤ e
  pub holds : IsTrue (p t)
  pub none : (i : ℕ) → s < i → i < t → p i ≡ false

-- once some instant after s and up to e has p, so have all from it to e
abbrev pub OnceThenOn : (ℕ → Bool) → ℕ → ℕ → Type 0
OnceThenOn p s e = (i j : ℕ) → s < i → i ≤ j → j ≤ e → IsTrue (p i) → IsTrue (p j)
