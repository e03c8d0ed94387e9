-- The kinds of bounds are listed by their numbers, and a bound is known by its kind and its accuracy.
use Rattle.std.proofs.Common.{◌≡◌, ℕ, ◌==◌, Bool, true, false, List, [], ◌∷◌, Some, find, if◌then◌else◌, refl, sym, ap}
use Rattle.std.proofs.Common.{◌∙◌}
use Rattle.std.proofs.lemmas.Bool.{eqb-true}
use Rattle.bounds.specs.declared.families.Family.{Family}
use Rattle.bounds.specs.declared.families.Family.TheVariants.{ExactSteps, LinearTail, Staircase}
use Rattle.bounds.specs.declared.families.TheConstants.Family.{ALL}
use Rattle.bounds.specs.declared.supplied.Supplied.{Supplied}
use Rattle.bounds.specs.declared.supplied.Supplied.TheVariants.{ExactSteps as exact, LinearTail as tail}
use Rattle.bounds.specs.declared.supplied.Supplied.TheVariants.{Staircase as stairs}
use Rattle.bounds.specs.Families.{family_meaning, family_number, family_of_number, supplied_plain}
use Rattle.bounds.specs.Values.{meaning_of}

-- the number of each names it
pub numbered : (f : Family) → family_of_number (family_number f) ≡ Some f
numbered ExactSteps = refl
numbered LinearTail = refl
numbered Staircase = refl

-- what is found of a list passes the test
found : {X : Type 0} (p : X → Bool) (xs : List X) (y : X) → find p xs ≡ Some y → p y ≡ true
found p [] y is = cc
found p (x ∷ xs) y is = by (p x) refl is (found p xs y)
  where
    by : (b : Bool) → p x ≡ b → (if b then Some x else find p xs) ≡ Some y → (find p xs ≡ Some y → p y ≡ true)
        → p y ≡ true
    by true here is later = let same : x ≡ y = cc in ap p (sym same) ∙ here
    by false here is later = later is

-- the kind that a number names has that number
pub number_of_kind : (n : ℕ) (f : Family) → family_of_number n ≡ Some f → family_number f ≡ n
number_of_kind n f named = eqb-true (family_number f) n (found (λ f. family_number f == n) ALL f named)

-- a bound means what is meant by its kind and the accuracy that is told with it
pub means_plain : (b : Supplied) → meaning_of b ≡ family_meaning (supplied_plain b).0 (supplied_plain b).1
means_plain exact = refl
means_plain (tail t) = refl
means_plain (stairs s) = refl
