-- One byte more of a script.
use Rattle.std.proofs.Common.{◌≡◌, ℕ, ◌+◌, ◌<◌, List, ◌∷◌, ◌++◌, length, drop, get_or, refl, sym, ap, ◌∙◌, append_assoc}
use Rattle.std.proofs.Common.{add-one, drop-cons}
use Rattle.scripts.specs.PlayState.{PlayState, after_byte, written_for_byte, after_bytes, written_for_bytes}

module _ (p : PlayState) (bytes : List ℕ) (i : ℕ) (inside : i < length bytes) where
  left : drop i bytes ≡ get_or bytes i 0 ∷ drop (i + 1) bytes
  left = rw (add-one, drop-cons bytes i 0) refl

  -- what is left to play, once it is played
  pub played_more : (q all : PlayState) → q ≡ after_byte p (get_or bytes i 0)
      → after_bytes p (drop i bytes) ≡ all → after_bytes q (drop (i + 1) bytes) ≡ all
  played_more q all same whole =
      ap (λ x. after_bytes x (drop (i + 1) bytes)) same ∙ ap (after_bytes p) (sym left) ∙ whole

  -- what is written for it, and for what is left
  pub written_next : written_for_bytes p (drop i bytes)
      ≡ written_for_byte p (get_or bytes i 0)
      ++ written_for_bytes (after_byte p (get_or bytes i 0)) (drop (i + 1) bytes)
  written_next = ap (written_for_bytes p) left

  pub written_more : (q : PlayState) (front all : List ℕ) → q ≡ after_byte p (get_or bytes i 0)
      → front ++ written_for_bytes p (drop i bytes) ≡ all
      → (front ++ written_for_byte p (get_or bytes i 0)) ++ written_for_bytes q (drop (i + 1) bytes) ≡ all
  written_more q front all same whole =
      append_assoc front (written_for_byte p (get_or bytes i 0)) (written_for_bytes q (drop (i + 1) bytes))
      ∙ ap (λ x. front ++ (written_for_byte p (get_or bytes i 0) ++ written_for_bytes x (drop (i + 1) bytes))) same
      ∙ ap (λ x. front ++ x) (sym written_next) ∙ whole
