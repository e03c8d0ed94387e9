-- What is known of a value that comes through checks, and of one that does not.
use Rattle.std.proofs.Common.{◌≡◌, ℕ, ◌+◌, Bool, true, false, ltb, List, [], ◌∷◌, ◌++◌, length, Some, None, Option, Ok}
use Rattle.std.proofs.Common.{Err, Result, refl, sym, subst, ap, ◌∙◌, arith, if◌then◌else◌, position, MatchResult}
use Rattle.std.specs.Option.{option_map}
use Rattle.std.specs.List.{All, position_or_len}
use Rattle.std.specs.Result.{IsOk}
use Rattle.std.proofs.lemmas.List.Sums.{fails_before_first, position_or_len_is}
use Rattle.std.proofs.lemmas.Bool.{cond-false, le-ltb, ltb-false}
use Rattle.std.proofs.lemmas.List.{append-nil}
use Rattle.rows.specs.declared.refusals.Refusal.{Refusal}
use Rattle.rows.specs.declared.refusals.Fault.{Fault}
use Rattle.rows.specs.Answers.{Answer, answer, gives, refuses, refuses_at, Check, checked, Passes}

-- where a value is given, the first check has no position to tell, and the others give it
pub nothing_told : {A : Type 0} (refusal : Refusal) (at : Option ℕ) (x : A) (others : Answer A)
    → gives x ≡ refuses_at refusal at others → (at ≡ None) × (gives x ≡ others)
nothing_told refusal None x others given = (refl, given)
nothing_told refusal (Some at) x others given = cc

-- what it checks is not wrong
pub first_passes : {A : Type 0} (wrong : Bool) (refusal : Refusal) (at : ℕ) (x : A) (others : Answer A)
    → gives x ≡ refuses_at refusal (if wrong then Some at else None) others → (wrong ≡ false) × (gives x ≡ others)
first_passes true refusal at x others given = cc
first_passes false refusal at x others given = (refl, given)

-- nor is any element of the list that it checks
pub places_pass : {A X : Type 0} (wrong : X → Bool) (place : ℕ → ℕ) (xs : List X) (refusal : Refusal) (x : A)
    (others : Answer A) → gives x ≡ refuses_at refusal (option_map place (position wrong xs)) others
    → All (λ y. wrong y ≡ false) xs × (gives x ≡ others)
places_pass wrong place xs refusal x others given =
    let first = nothing_told refusal (option_map place (position wrong xs)) x others given in
    (at (ltb (position_or_len wrong xs) (length xs)) refl first.0, first.1)
  where
    at : (b : Bool) → ltb (position_or_len wrong xs) (length xs) ≡ b
        → option_map place (if b then Some (position_or_len wrong xs) else None) ≡ None → All (λ y. wrong y ≡ false) xs
    at true found none = cc
    at false found none =
        λ k d within.
        fails_before_first wrong xs k d (omega (arith, ltb-false (position_or_len wrong xs) (length xs) found))

-- where a check of each element that tells ranks passes, none is wrong
pub each_passes : {A X : Type 0} (wrong : X → Bool) (xs : List X) (refusal : Refusal) (x : A) (others : Answer A)
    → gives x ≡ refuses_at refusal (option_map (λ i. i + 1) (position wrong xs)) others
    → All (λ y. wrong y ≡ false) xs × (gives x ≡ others)
each_passes wrong xs = places_pass wrong (λ i. i + 1) xs

-- where nothing is wrong, a check leaves the answer to others
pub passes_on : {A : Type 0} (wrong : Bool) (refusal : Refusal) (at : ℕ) (others : Answer A) → wrong ≡ false
    → refuses_at refusal (if wrong then Some at else None) others ≡ others
passes_on wrong refusal at others right = rw right

-- a check of a list in which nothing is wrong leaves the answer to others
pub places_pass_on : {A X : Type 0} (wrong : X → Bool) (place : ℕ → ℕ) (xs : List X) (refusal : Refusal)
    (others : Answer A) → All (λ y. wrong y ≡ false) xs
    → refuses_at refusal (option_map place (position wrong xs)) others ≡ others
places_pass_on {X = X} wrong place xs refusal others right =
    ap (λ o. refuses_at refusal (option_map place o) others) (nowhere xs right)
  where
    nowhere : (xs : List X) → All (λ y. wrong y ≡ false) xs → position wrong xs ≡ None
    nowhere [] right = refl
    nowhere (x ∷ xs) right =
        let all = position_or_len_is wrong (x ∷ xs) (length (x ∷ xs)) x (omega arith) (λ k. right k x)
        (λ beyond. absurd (omega (arith, beyond))) in
        cond-false (ltb (position_or_len wrong (x ∷ xs)) (length (x ∷ xs))) (Some (position_or_len wrong (x ∷ xs))) None
        (le-ltb (position_or_len wrong (x ∷ xs)) (length (x ∷ xs)) (omega (arith, all)))

-- where a value is given, it is the one that was to be given
pub given_is : {A : Type 0} (cs : List Check) (x y : A) → gives x ≡ checked cs y → x ≡ y
given_is [] x y given = cc
given_is (c ∷ cs) x y given = given_is cs x y (nothing_told c.refusal c.at x (checked cs y) given).1

-- what the first checks refuse is refused with more checks after them
pub refused_first : {A B : Type 0} (cs ds : List Check) (n : Refusal) (at : ℕ) (y : A) → refuses n at ≡ checked cs y
    → (z : B) → refuses n at ≡ checked (cs ++ ds) z
refused_first [] ds n at y refused z = cc
refused_first (c ∷ cs) ds n at y refused z = by c.at refused (λ more. refused_first cs ds n at y more z)
  where
    by : (o : Option ℕ) → refuses n at ≡ refuses_at c.refusal o (checked cs y)
        → (refuses n at ≡ checked cs y → refuses n at ≡ checked (cs ++ ds) z)
        → refuses n at ≡ refuses_at c.refusal o (checked (cs ++ ds) z)
    by (Some p) here later = cc
    by None here later = later here

-- what comes through the first checks is left to those after them
pub passed_first : {A B : Type 0} (cs ds : List Check) (x y : A) → gives x ≡ checked cs y → (z : B)
    → checked ds z ≡ checked (cs ++ ds) z
passed_first [] ds x y given z = refl
passed_first (c ∷ cs) ds x y given z =
    let first = nothing_told c.refusal c.at x (checked cs y) given in
    rw first.0 (passed_first cs ds x y first.1 z)

-- where one value is given, any other would have been given too
pub gives_any : {A B : Type 0} (cs : List Check) (x y : A) → gives x ≡ checked cs y → (z : B) → gives z ≡ checked cs z
gives_any cs x y given z = passed_first cs [] x y given z ∙ ap (λ all. checked all z) (append-nil cs)

-- where one value is refused, any other would have been refused in the same way
pub refuses_any : {A B : Type 0} (cs : List Check) (n : Refusal) (at : ℕ) (y : A) → refuses n at ≡ checked cs y
    → (z : B) → refuses n at ≡ checked cs z
refuses_any cs n at y refused z = refused_first cs [] n at y refused z ∙ ap (λ all. checked all z) (append-nil cs)

-- the answer to a question that is not refused is the one that was to be given
pub answered_is : {X A : Type 0} (f : X → A) (cs : List Check) (a : A) (r : Result X Fault) (x : X)
    → answer f r ≡ checked cs a → r ≡ Ok x → f x ≡ a
answered_is f cs a r x given is = given_is cs (f x) a (sym (ap (answer f) is) ∙ given)

-- and what is said of it holds
pub when_ok : {X : Type 0} (P : X → Type 0) (Q : Fault → Type 0) (r : Result X Fault) (x : X) → r ≡ Ok x
    → MatchResult r P Q → P x
when_ok P Q r x is said = subst (λ r. MatchResult r P Q) is said

-- no question is both answered and refused
pub answered_once : {A B : Type 0} (cs : List Check) (x y : A) (n : Refusal) (at : ℕ) (z : B) → gives x ≡ checked cs y
    → refuses n at ≡ checked cs z → ⊥
answered_once cs x y n at z given refused = let same = gives_any cs x y given z in cc

-- so what comes through its checks is not refused
pub is_answered : {X A : Type 0} (f : X → A) (cs : List Check) (x : A) (r : Result X Fault) → Passes cs
    → answer f r ≡ checked cs x → IsOk r
is_answered f cs x (Ok y) passes given = refl
is_answered f cs x (Err fault) passes refused = absurd (answered_once cs tt tt _ _ x passes refused)
