-- What is said of each bound in turn.
use Rattle.std.proofs.Common.{◌≡◌, ℕ, ◌+◌, ◌<◌, List, [], ◌∷◌, ◌++◌, length, map, take, get_or, Option, None, Some}
use Rattle.std.proofs.Common.{refl, sym, ◌∙◌, ap, ap₂, subst}
use Rattle.std.specs.List.{AllZip, filter_map, cons_option}
use Rattle.std.specs.Option.{option_to_list}
use Rattle.std.proofs.lemmas.List.{take_more}
use Rattle.std.proofs.lemmas.List.Elements.{filter_map-append}
use Rattle.std.proofs.lemmas.Slice.Zip.{all_zipped_more}

-- a map of a list and one element
mapped_more : {X Y : Type 0} (g : X → Y) (xs : List X) (x : X) → map g (xs ++ x ∷ []) ≡ map g xs ++ g x ∷ []
mapped_more g [] x = refl
mapped_more g (y ∷ ys) x = ap (λ zs. g y ∷ zs) (mapped_more g ys x)

-- a map of the elements up to the next
taken_more : {X Y : Type 0} (g : X → Y) (xs : List X) (i : ℕ) (x : X) → i < length xs → x ≡ get_or xs i x
    → map g (take (i + 1) xs) ≡ map g (take i xs) ++ g x ∷ []
taken_more g xs i x few is =
    ap (map g) (take_more xs i x few ∙ ap (λ y. take i xs ++ y ∷ []) (sym is)) ∙ mapped_more g (take i xs) x

-- what there is of one
pub one_there : {X : Type 0} (o : Option X) → option_to_list o ≡ cons_option o []
one_there None = refl
one_there (Some x) = refl

-- what there is of the elements so far and of the next is what there is up to that
pub filtered_more : {X Y Z : Type 0} (h : Y → Option Z) (g : X → Y) (y : Y) (xs : List X) (i : ℕ) (x : X) (zs : List Z)
    → i < length xs → x ≡ get_or xs i x → zs ≡ filter_map h (y ∷ map g (take i xs))
    → zs ++ option_to_list (h (g x)) ≡ filter_map h (y ∷ map g (take (i + 1) xs))
filtered_more h g y xs i x zs few is before =
    ap₂ (λ a b. a ++ b) before (one_there (h (g x))) ∙ sym (filter_map-append h (y ∷ map g (take i xs)) (g x ∷ []))
    ∙ ap (λ ys. filter_map h (y ∷ ys)) (sym (taken_more g xs i x few is))

-- what holds of each element so far and of the next holds up to that
pub zipped_more : {X Y Z : Type 0} (R : Y → Z → Type 0) (g : X → Y) (xs : List X) (i : ℕ) (x : X) (zs : List Z) (z : Z)
    → i < length xs → x ≡ get_or xs i x → AllZip R (map g (take i xs)) zs → R (g x) z
    → AllZip R (map g (take (i + 1) xs)) (zs ++ z ∷ [])
zipped_more R g xs i x zs z few is before one =
    subst (λ ys. AllZip R ys (zs ++ z ∷ [])) (sym (taken_more g xs i x few is))
    (all_zipped_more R (map g (take i xs)) zs (g x) z before one)
