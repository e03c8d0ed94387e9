-- Lists written over one another.
use Rattle.std.proofs.Common.{◌≡◌, ℕ, ◌+◌, ◌≤◌, List, [], ◌++◌, length, take, drop, sym, ap, ◌∙◌, ap₂, arith}
use Rattle.std.proofs.lemmas.List.{append_assoc, drop-drop, length-append, length-take-le, take-append-drop}
use Rattle.std.proofs.Math.Seq.{drop-append_seam, take-append_seam}
use Rattle.rows.specs.Lists.{written}

module _ {X : Type 0} (old : List X) (i : ℕ) (within : i ≤ length old) where
  -- what stands up to the end of what was written
  front_length : (a : List X) → length (take i old ++ a) ≡ i + length a
  front_length a = length-append (take i old) a ∙ ap (λ n. n + length a) (length-take-le i old within)

  pub take_written : (a : List X) → take (i + length a) (written old i a) ≡ take i old ++ a
  take_written a =
      ap₂ take (sym (front_length a)) (sym (append_assoc (take i old) a (drop (i + length a) old)))
      ∙ take-append_seam (take i old ++ a) (drop (i + length a) old)

  drop_written : (a : List X) → drop (i + length a) (written old i a) ≡ drop (i + length a) old
  drop_written a =
      ap₂ drop (sym (front_length a)) (sym (append_assoc (take i old) a (drop (i + length a) old)))
      ∙ drop-append_seam (take i old ++ a) (drop (i + length a) old)

  -- what is written just behind what was written before is written with it
  pub written_on : (a b : List X) → written (written old i a) (i + length a) b ≡ written old i (a ++ b)
  written_on a b =
      let behind : drop (i + length a + length b) (written old i a) ≡ drop (i + length (a ++ b)) old =
      sym (drop-drop (length b) (i + length a) (written old i a)) ∙ ap (drop (length b)) (drop_written a)
      ∙ drop-drop (length b) (i + length a) old
      ∙ ap (λ n. drop n old) (omega (arith, length-append a b)) in
      ap₂ (λ xs ys. xs ++ (b ++ ys)) (take_written a) behind
      ∙ append_assoc (take i old) a (b ++ drop (i + length (a ++ b)) old)
      ∙ ap (λ xs. take i old ++ xs) (sym (append_assoc a b (drop (i + length (a ++ b)) old)))

-- nothing written leaves all as it was
pub written_none : {X : Type 0} (old : List X) (i : ℕ) → written old i [] ≡ old
written_none old i = ap (λ n. take i old ++ drop n old) (omega arith) ∙ take-append-drop i old

-- a list keeps its length, where what is written over it fits
pub written_length : {X : Type 0} (old : List X) (i : ℕ) (a : List X) → i + length a ≤ length old
    → length (written old i a) ≡ length old
written_length old i a fits =
    length-append (take i old) (a ++ drop (i + length a) old)
    ∙ ap₂ ◌+◌ (length-take-le i old (omega arith)) (length-append a (drop (i + length a) old))
    ∙ omega (
      arith,
      ap length (take-append-drop (i + length a) old),
      length-append (take (i + length a) old) (drop (i + length a) old),
      length-take-le (i + length a) old fits,
    )
