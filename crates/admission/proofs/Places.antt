-- An element of a list at a rank: the list without it, and the first place of a list that passes a test.
use Rattle.std.proofs.Common.{◌≡◌, ℕ, zero, suc, ◌+◌, ◌-◌, ◌<◌, ◌≤◌, Bool, true, false, cond, ltb, List, [], ◌∷◌, ◌++◌}
use Rattle.std.proofs.Common.{length, take, drop, get_or, Some, None, Option, refl, sym, ap, ap₂, ◌∙◌, subst, arith, position}
use Rattle.std.specs.List.{All, position_or_len}
use Rattle.std.specs.Option.{option_map}
use Rattle.std.proofs.Math.Path.{subst₂}
use Rattle.std.proofs.Math.Seq.{drop-append-add}
use Rattle.std.proofs.lemmas.Bool.{cond-false, cond-true, le-ltb, lt-ltb, ltb-false, ltb-true}
use Rattle.std.proofs.lemmas.List.{append_assoc, drop_at, take_at, length-append}
use Rattle.std.proofs.lemmas.List.Elements.{All-append, All-cons, All-drop, All-head, All-nil, All-tail}
use Rattle.std.proofs.lemmas.List.Elements.{All-take}
use Rattle.rows.specs.Lists.{at_rank, first_of}
use Rattle.admission.specs.Books.{without}

-- an element between others stands at the rank after those before it
pub at_there : {X : Type 0} (rank : ℕ) (all xs ys : List X) (x : X) → 1 ≤ rank → length xs ≡ rank - 1
    → all ≡ xs ++ x ∷ ys → at_rank rank all ≡ Some x
at_there rank all xs ys x low place split =
    let up : suc (rank - 1) ≡ rank = omega arith in
    subst (λ n. at_rank n all ≡ Some x) up
    (ap (λ zs. first_of (drop (rank - 1) zs)) split ∙ ap first_of (drop_at xs (x ∷ ys) (rank - 1) place))

-- the element at a rank is that at the place before it
at_place : {X : Type 0} (xs : List X) (i : ℕ) (d : X) → i < length xs → first_of (drop i xs) ≡ Some (get_or xs i d)
at_place [] i d within = absurd (omega arith)
at_place (x ∷ xs) zero d within = refl
at_place (x ∷ xs) (suc i) d within = at_place xs i d (omega arith)

-- so is the one at a rank
pub rank_place : {X : Type 0} (xs : List X) (rank : ℕ) (d : X) → 1 ≤ rank → rank ≤ length xs
    → at_rank rank xs ≡ Some (get_or xs (rank - 1) d)
rank_place xs rank d low high = let up : suc (rank - 1) ≡ rank = omega arith in
    subst (λ n. at_rank n xs ≡ Some (get_or xs (rank - 1) d)) up (at_place xs (rank - 1) d (omega arith))

-- without it the others are left
pub without_there : {X : Type 0} (rank : ℕ) (all xs ys : List X) (x : X) → 1 ≤ rank → length xs ≡ rank - 1
    → all ≡ xs ++ x ∷ ys → without rank all ≡ xs ++ ys
without_there rank all xs ys x low place split =
    let one : length (xs ++ x ∷ []) ≡ rank = omega (arith, length-append xs (x ∷ []), place, low) in
    ap₂ (λ front back. front ++ back)
    (ap (take (rank - 1)) split ∙ take_at xs (x ∷ ys) (rank - 1) place)
    (ap (drop rank) (split ∙ sym (append_assoc xs (x ∷ []) ys)) ∙ drop_at (xs ++ x ∷ []) ys rank one)

-- an element past another stands one rank before where that is left out
pub moved_down : {X : Type 0} (at : ℕ) (xs ys : List X) (x : X) → length xs + 1 < at
    → at_rank at (xs ++ x ∷ ys) ≡ at_rank (at - 1) (xs ++ ys)
moved_down at xs ys x past =
    let more = at - 2 - length xs in
    let here : suc (length xs + suc more) ≡ at = omega (arith, past) in
    let there : suc (length xs + more) ≡ at - 1 = omega (arith, past) in
    subst₂ (λ i j. at_rank i (xs ++ x ∷ ys) ≡ at_rank j (xs ++ ys)) here there
    (ap first_of (drop-append-add xs (x ∷ ys) (suc more) ∙ sym (drop-append-add xs ys more)))

-- what holds of each of two lists, one after the other, holds of each element of either
pub all_parts : {X : Type 0} (P : X → Type 0) (xs ys : List X) → All P (xs ++ ys) → All P xs × All P ys
all_parts P xs ys all = (
  subst (All P) (take_at xs ys (length xs) refl) (All-take P (length xs) (xs ++ ys) all),
  subst (All P) (drop_at xs ys (length xs) refl) (All-drop P (length xs) (xs ++ ys) all),
)

-- what holds of an element and of the others holds of all
pub all_with : {X : Type 0} (P : X → Type 0) (xs ys : List X) (x : X) → P x → All P (xs ++ ys) → All P (xs ++ x ∷ ys)
all_with P xs ys x here others =
    let parts = all_parts P xs ys others in
    All-append P xs (x ∷ ys) parts.0 (All-cons P x ys here parts.1)

-- what holds of all holds of an element and of the others
pub all_without : {X : Type 0} (P : X → Type 0) (xs ys : List X) (x : X) → All P (xs ++ x ∷ ys)
    → P x × All P (xs ++ ys)
all_without P xs ys x all =
    let parts = all_parts P xs (x ∷ ys) all in
    (All-head P x ys parts.1, All-append P xs ys parts.0 (All-tail P x ys parts.1))

-- a first element that passes is the first place
pub position_here : {X : Type 0} (p : X → Bool) (x : X) (xs : List X) → p x ≡ true → position p (x ∷ xs) ≡ Some 0
position_here p x xs passes =
    rw passes (cond-true (ltb 0 (suc (length xs))) (Some 0) None (lt-ltb 0 (suc (length xs)) (omega arith)))

-- before one that does not pass, every place is one less
pub position_next : {X : Type 0} (p : X → Bool) (x : X) (xs : List X) → p x ≡ false
    → position p (x ∷ xs) ≡ option_map suc (position p xs)
position_next {X = X} p x xs fails = rw fails (by (position_or_len p xs) (ltb (position_or_len p xs) (length xs)) refl)
  where
    by : (n : ℕ) (b : Bool) → ltb n (length xs) ≡ b
        → cond (ltb (1 + n) (suc (length xs))) (Some (1 + n)) None ≡ option_map suc (cond b (Some n) None)
    by n true before =
        let next : 1 + n ≡ suc n = omega arith in
        cond-true (ltb (1 + n) (suc (length xs))) (Some (1 + n)) None
        (lt-ltb (1 + n) (suc (length xs)) (omega (arith, ltb-true n (length xs) before)))
        ∙ ap Some next
    by n false past =
        cond-false (ltb (1 + n) (suc (length xs))) (Some (1 + n)) None
        (le-ltb (1 + n) (suc (length xs)) (omega (arith, ltb-false n (length xs) past)))

-- a place counted on and on once more
counted_on : {A B C : Type 0} (f : A → B) (g : B → C) (h : A → C) → ((x : A) → g (f x) ≡ h x) → (o : Option A)
    → option_map g (option_map f o) ≡ option_map h o
counted_on f g h same (Some x) = ap Some (same x)
counted_on f g h same None = refl

-- a place counted on by nothing
counted_same : {A : Type 0} (f : A → A) → ((x : A) → x ≡ f x) → (o : Option A) → o ≡ option_map f o
counted_same f same (Some x) = ap Some (same x)
counted_same f same None = refl

-- before elements none of which passes, it is as many less
pub position_after : {X : Type 0} (p : X → Bool) (xs ys : List X) → All (λ x. p x ≡ false) xs
    → position p (xs ++ ys) ≡ option_map (λ i. length xs + i) (position p ys)
position_after p [] ys fail = counted_same (λ i. 0 + i) (λ i. omega arith) (position p ys)
position_after {X = X} p (x ∷ xs) ys fail =
    let Fails : X → Type 0 = λ y. p y ≡ false in
    position_next p x (xs ++ ys) (All-head Fails x xs fail)
    ∙ ap (option_map suc) (position_after p xs ys (All-tail Fails x xs fail))
    ∙ counted_on (λ i. length xs + i) suc (λ i. length (x ∷ xs) + i) (λ i. omega arith) (position p ys)

-- there is not both a place and none
not_both : (o : Option ℕ) → o ≡ Some 0 → o ≡ None → ⊥
not_both None is none = cc
not_both (Some i) is none = cc

-- no place counted on is no place
none_on : (o : Option ℕ) → option_map suc o ≡ None → o ≡ None
none_on None none = refl
none_on (Some i) none = cc

-- where no place passes, no element does
pub nowhere : {X : Type 0} (p : X → Bool) (xs : List X) → position p xs ≡ None → All (λ x. p x ≡ false) xs
nowhere p [] none = All-nil (λ x. p x ≡ false)
nowhere p (x ∷ xs) none =
    by (p x) refl
    (λ fails. nowhere p xs (none_on (position p xs) (sym (position_next p x xs fails) ∙ none)))
  where
    by : (b : Bool) → p x ≡ b → (p x ≡ false → All (λ y. p y ≡ false) xs) → All (λ y. p y ≡ false) (x ∷ xs)
    by true passes later = absurd (not_both (position p (x ∷ xs)) (position_here p x xs passes) none)
    by false fails later = All-cons (λ y. p y ≡ false) x xs fails (later fails)
