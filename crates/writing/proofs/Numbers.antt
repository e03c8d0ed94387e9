-- Numbers of four bytes, written one after the other behind a kind byte.
use Rattle.std.proofs.Common.{◌≡◌, ℕ, ◌+◌, ◌*◌, ◌<◌, ◌≤◌, List, [], ◌∷◌, length, get_or, take, sym, refl, ap, ◌∙◌}
use Rattle.std.proofs.Common.{arith}
use Rattle.std.specs.List.{flat_map}
use Rattle.std.proofs.lemmas.List.{flat_map_more, length-append, length-take-le, take_all, take_more}
use Rattle.rows.specs.Lists.{written}
use Rattle.leaves.specs.Bytes.{four}
use Rattle.writing.proofs.Written.{written_on}

-- each takes four bytes
numbers_length : (ns : List ℕ) → length (flat_map four ns) ≡ 4 * length ns
numbers_length [] = refl
numbers_length (n ∷ ns) = omega (arith, length-append (four n) (flat_map four ns), numbers_length ns)

module _ (old : List ℕ) (at kind : ℕ) (ns : List ℕ) (room : at + 1 + 4 * length ns ≤ length old) (i : ℕ) where
  -- one number more
  pub number_more : (d : ℕ) → i < length ns
      → written (written old at (kind ∷ flat_map four (take i ns))) (at + 1 + 4 * i) (four (get_or ns i d))
      ≡ written old at (kind ∷ flat_map four (take (i + 1) ns))
  number_more d within =
      let before = kind ∷ flat_map four (take i ns) in
      let place : at + 1 + 4 * i ≡ at + length before =
      omega (arith, numbers_length (take i ns), length-take-le i ns (omega arith)) in
      ap (λ n. written (written old at before) n (four (get_or ns i d))) place
      ∙ written_on old at (omega arith) before (four (get_or ns i d))
      ∙ ap (written old at)
      (flat_map_more four (kind ∷ []) (take i ns) (get_or ns i d)
      ∙ ap (λ xs. kind ∷ flat_map four xs) (sym (take_more ns i d within)))

  -- all numbers of a body, written behind its letter
  pub numbers_all : i ≡ length ns
      → written old at (kind ∷ flat_map four (take i ns)) ≡ written old at (kind ∷ flat_map four ns)
  numbers_all all = ap (λ xs. written old at (kind ∷ flat_map four xs)) (take_all i ns (omega arith))
