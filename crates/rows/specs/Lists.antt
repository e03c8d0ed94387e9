-- What is said of lists: the element at a rank, and lists that a call fills in part.
use Rattle.std.specs.Prelude.{◌≡◌, ℕ, zero, suc, ◌+◌, ◌<◌, ◌≤◌, ◌⊎◌, List, [], ◌∷◌, ◌++◌, length, take, drop, Some}
use Rattle.std.specs.Prelude.{None, Option, slice_index_or}

-- the first element of a list, if there is one
abbrev pub first_of : {X : Type 0} → List X → Option X
first_of [] = None
first_of (x ∷ xs) = Some x

-- the element at a rank, the first having rank 1: none at 0 and past the last
abbrev pub at_rank : {X : Type 0} → ℕ → List X → Option X
at_rank zero xs = None
at_rank (suc i) xs = first_of (drop i xs)

-- a list with new elements written over it from place i on: the places before i and those past the new elements stay
abbrev pub written : {X : Type 0} → List X → ℕ → List X → List X
written old i new = take i old ++ (new ++ drop (i + length new) old)

-- every place before i, and every one from j on, holds what it held
abbrev pub StaysOutside : {X : Type 0} → ℕ → ℕ → List X → List X → Type 0
StaysOutside {X} i j old new = (k : ℕ) (d : X) → (k < i) ⊎ (j ≤ k) → slice_index_or new k d ≡ slice_index_or old k d
