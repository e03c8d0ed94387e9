-- One byte more in a buffer.
use Rattle.std.proofs.Common.{◌≡◌, ℕ, ◌+◌, ◌<◌, ◌≤◌, List, [], ◌∷◌, ◌++◌, length, take, slice_set, sym, ◌∙◌, arith}
use Rattle.std.proofs.lemmas.List.{take_more_set, take_all, take_at, length-take-le, length_push}

-- where there is room, it stands behind the others
pub pushed : (bytes : List ℕ) (count room b : ℕ) → length bytes ≡ room → count < room
    → take (count + 1) (slice_set bytes count b) ≡ take room (take count bytes ++ b ∷ [])
pushed bytes count room b places fits =
    let len = length-take-le count bytes (omega arith) in
    take_more_set bytes count b (omega arith)
    ∙ sym (take_all room (take count bytes ++ b ∷ []) (omega (arith, len, length_push (take count bytes) b)))

-- where there is none, the others stay
pub full : (bytes : List ℕ) (count room b : ℕ) → length bytes ≡ room → count ≤ room → room ≤ count
    → take count bytes ≡ take room (take count bytes ++ b ∷ [])
full bytes count room b places within none =
    sym (take_at (take count bytes) (b ∷ []) room (length-take-le count bytes (omega arith) ∙ omega arith))
