-- Lists that grow by what is told of each element of another.
use Rattle.std.proofs.Common.{◌≡◌, ℕ, ◌+◌, ◌<◌, List, [], ◌∷◌, ◌++◌, map, length, get_or, take, Some, None, Option}
use Rattle.std.proofs.Common.{refl, sym, ap, ◌∙◌, flat_map}
use Rattle.std.specs.List.{filter_map}
use Rattle.std.proofs.lemmas.List.{append-nil, append_assoc, flat_map_more, map_push, take_more}
use Rattle.std.proofs.lemmas.List.Elements.{filter_map-append}

-- what is read of the first elements, with that of the next one behind it
pub read_more : {A B : Type 0} (h : A → B) (xs : List A) (k : ℕ) (d : A) → k < length xs
    → map h (take k xs) ++ h (get_or xs k d) ∷ [] ≡ map h (take (k + 1) xs)
read_more h xs k d within = sym (ap (map h) (take_more xs k d within) ∙ map_push h (take k xs) (get_or xs k d))

-- a list grows by some elements for each
pub grown : {A B X : Type 0} (f : B → List X) (h : A → B) (xs : List A) (k : ℕ) (d : A) → k < length xs
    → (before now new : List X) → now ≡ before ++ flat_map f (map h (take k xs)) → new ≡ now ++ f (h (get_or xs k d))
    → new ≡ before ++ flat_map f (map h (take (k + 1) xs))
grown f h xs k d within before now new so more =
    more ∙ ap (λ ys. ys ++ f (h (get_or xs k d))) so ∙ flat_map_more f before (map h (take k xs)) (h (get_or xs k d))
    ∙ ap (λ ys. before ++ flat_map f ys) (read_more h xs k d within)

-- or by one for each
pub grown_one : {A B X : Type 0} (f : B → X) (h : A → B) (xs : List A) (k : ℕ) (d : A) → k < length xs
    → (before now new : List X) → now ≡ before ++ map f (map h (take k xs)) → new ≡ now ++ f (h (get_or xs k d)) ∷ []
    → new ≡ before ++ map f (map h (take (k + 1) xs))
grown_one f h xs k d within before now new so more =
    more ∙ ap (λ ys. ys ++ f (h (get_or xs k d)) ∷ []) so
    ∙ append_assoc before (map f (map h (take k xs))) (f (h (get_or xs k d)) ∷ [])
    ∙ ap (λ ys. before ++ ys) (sym (map_push f (map h (take k xs)) (h (get_or xs k d))))
    ∙ ap (λ ys. before ++ map f ys) (read_more h xs k d within)

-- what is given of the first elements, with what is given of the next one behind it
pub given_more : {A B : Type 0} (h : A → Option B) (xs : List A) (k : ℕ) (d : A) (y : B) → k < length xs
    → h (get_or xs k d) ≡ Some y → filter_map h (take k xs) ++ y ∷ [] ≡ filter_map h (take (k + 1) xs)
given_more h xs k d y within given =
    let x = get_or xs k d in
    let last : filter_map h (x ∷ []) ≡ y ∷ [] = rw given refl in
    sym (ap (filter_map h) (take_more xs k d within) ∙ filter_map-append h (take k xs) (x ∷ [])
    ∙ ap (λ ys. filter_map h (take k xs) ++ ys) last)

-- where nothing is given of the next one, nothing more is
pub given_none : {A B : Type 0} (h : A → Option B) (xs : List A) (k : ℕ) (d : A) → k < length xs
    → h (get_or xs k d) ≡ None → filter_map h (take k xs) ≡ filter_map h (take (k + 1) xs)
given_none h xs k d within none =
    let x = get_or xs k d in
    let last : filter_map h (x ∷ []) ≡ [] = rw none refl in
    sym (ap (filter_map h) (take_more xs k d within) ∙ filter_map-append h (take k xs) (x ∷ [])
    ∙ ap (λ ys. filter_map h (take k xs) ++ ys) last ∙ append-nil (filter_map h (take k xs)))

-- columns that were put behind one another
pub columns_are : {X : Type 0} (first rests : List X) (point : X) (points one two all : List X)
    → one ≡ first ++ rests → two ≡ one ++ point ∷ [] → all ≡ two ++ points
    → all ≡ first ++ (rests ++ point ∷ points)
columns_are first rests point points one two all begun more ended =
    ended
    ∙ ap (λ xs. xs ++ points) (more ∙ ap (λ xs. xs ++ point ∷ []) begun)
    ∙ append_assoc (first ++ rests) (point ∷ []) points
    ∙ append_assoc first rests (point ∷ points)
