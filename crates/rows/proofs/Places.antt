-- The first place of a list that passes a test.
use Rattle.std.proofs.Common.{◌≡◌, ◌+◌, Bool, cond, not, ltb, List, [], ◌∷◌, map, Some, None, refl, ap, ap₂, position}
use Rattle.std.specs.List.{prefix_len}
use Rattle.std.proofs.lemmas.List.{length-map}

-- the front of a list that was made of another by a function
front_map : {X Y : Type 0} (f : X → Y) (p : Y → Bool) (xs : List X)
    → prefix_len p (map f xs) ≡ prefix_len (λ x. p (f x)) xs
front_map f p [] = refl
front_map f p (x ∷ xs) = ap (λ n. cond (p (f x)) (1 + n) 0) (front_map f p xs)

-- the first place of a list that was made of another by a function
pub position_map : {X Y : Type 0} (f : X → Y) (p : Y → Bool) (xs : List X)
    → position p (map f xs) ≡ position (λ x. p (f x)) xs
position_map f p xs = ap₂ (λ i n. cond (ltb i n) (Some i) None) (front_map f (λ y. not (p y)) xs) (length-map xs f)
