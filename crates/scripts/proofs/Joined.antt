-- Texts with another between each two.
use Rattle.std.proofs.Common.{◌≡◌, ℕ, zero, suc, ◌+◌, ◌<◌, ◌≤◌, List, [], ◌∷◌, ◌++◌, length, take, get_or, sym, ap, ◌∙◌}
use Rattle.std.proofs.Common.{arith, append-nil, append_assoc}
use Rattle.std.specs.List.{flat_map, join_by}
use Rattle.std.proofs.lemmas.Grind.{flat_map-append}
use Rattle.std.proofs.lemmas.List.{take_more}

module _ {X : Type 0} (text : X → List ℕ) (between : List ℕ) where
  -- the first
  pub joined_first : (xs : List X) (i : ℕ) (d : X) → i ≤ 0 → i < length xs
      → join_by text between (take i xs) ++ text (get_or xs i d) ≡ join_by text between (take (i + 1) xs)
  joined_first [] i d none inside = absurd (omega arith)
  joined_first (x ∷ xs) zero d none inside = sym (append-nil (text x))
  joined_first (x ∷ xs) (suc i) d none inside = absurd (omega arith)

  last_joined : (xs : List X) (y : X) → 0 < length xs
      → (join_by text between xs ++ between) ++ text y ≡ join_by text between (xs ++ y ∷ [])
  last_joined [] y some = absurd (omega arith)
  last_joined (x ∷ xs) y some =
      let behind : X → List ℕ = λ z. between ++ text z in
      append_assoc (text x ++ flat_map behind xs) between (text y)
      ∙ append_assoc (text x) (flat_map behind xs) (between ++ text y)
      ∙ ap (λ t. text x ++ (flat_map behind xs ++ t)) (sym (append-nil (between ++ text y)))
      ∙ ap (λ t. text x ++ t) (sym (flat_map-append behind xs (y ∷ [])))

  -- one more
  pub joined_more : (xs : List X) (i : ℕ) (d : X) → 0 < i → i < length xs
      → (join_by text between (take i xs) ++ between) ++ text (get_or xs i d) ≡ join_by text between (take (i + 1) xs)
  joined_more [] i d some inside = absurd (omega arith)
  joined_more (x ∷ xs) zero d some inside = absurd (omega arith)
  joined_more (x ∷ xs) (suc i) d some inside =
      last_joined (take (suc i) (x ∷ xs)) (get_or (x ∷ xs) (suc i) d) (omega arith)
      ∙ ap (join_by text between) (sym (take_more (x ∷ xs) (suc i) d inside))
