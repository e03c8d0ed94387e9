-- Whether bytes are text, as a program asks.
use Rattle.std.proofs.Common.{◌≡◌, ℕ, List, sym}
use Rattle.std.specs.Prelude.{MatchResult, Result, Ok, Err, is_ok}
use Rattle.std.specs.Str.{IsUtf8, is_utf8}
use Rattle.std.proofs.lemmas.Bool.{false_from_ne_true}
use Rattle.std.proofs.lemmas.Str.{IsUtf8-from_is_utf8, is_utf8-from_IsUtf8}

pub text_told : {T X : Type 0} (bytes : List ℕ) (r : Result T X) (P : T → Type 0) (Q : X → Type 0)
    → MatchResult r (λ s. P s × IsUtf8 bytes) (λ e. ¬ (IsUtf8 bytes) × Q e) → is_ok r ≡ is_utf8 bytes
text_told bytes (Ok s) P Q h = sym (is_utf8-from_IsUtf8 bytes h.1)
text_told bytes (Err e) P Q h = sym (false_from_ne_true (is_utf8 bytes) (λ e. h.0 (IsUtf8-from_is_utf8 bytes e)))
