-- The number that a word is, by what the library reads.
use Rattle.std.proofs.Common.{◌≡◌, ℕ, ◌<◌, ◌^◌, true, false, cond, ◌&&◌, List, length, Some, None, Result, Ok, Err}
use Rattle.std.proofs.Common.{MatchResult, refl, sym, ap, ◌∙◌, arith}
use Rattle.std.specs.Prelude.{nat_lt, decimal}
use Rattle.std.specs.Result.{OkIff, result_ok}
use Rattle.std.specs.Str.{all_ascii_digits, IsUtf8}
use Rattle.std.specs.Str.Parse.{digits_value}
use Rattle.std.proofs.lemmas.Bool.{and_parts, lt-ltb, ltb-true, false_from_ne_true}
use Rattle.std.proofs.lemmas.Str.Parse.{IsNumeralModel, numerals_by_value, tells_all_ascii_digits}
use Rattle.std.proofs.lemmas.Fmt.{IsAscii-from_digits, decimal_is_IsNumeral}
use Rattle.std.proofs.lemmas.Str.{IsUtf8-from_ascii}
use Rattle.numerals.specs.Numerals.{is_number, number_of}

-- the library's words for digits and their value
pub own : IsNumeralModel (λ ds. all_ascii_digits ds ≡ true) (digits_value 10)
own = numerals_by_value _ tells_all_ascii_digits

pub number_of-yes : (w : List ℕ) → all_ascii_digits w ≡ true → 0 < length w → digits_value 10 w < 2 ^ 32
    → number_of w ≡ Some (digits_value 10 w)
number_of-yes w digits some small =
    let a : nat_lt 0 (length w) ≡ true = lt-ltb 0 (length w) some in
    let b : nat_lt (digits_value 10 w) (2 ^ 32) ≡ true = lt-ltb (digits_value 10 w) (2 ^ 32) small in
    rw (a, digits, b) refl

pub number_of-no : (w : List ℕ) → ¬ ((all_ascii_digits w ≡ true) × (0 < length w) × (digits_value 10 w < 2 ^ 32))
    → number_of w ≡ None
number_of-no w fails =
    let e : is_number w ≡ false = false_from_ne_true (is_number w) (λ h.
    let p = and_parts (nat_lt 0 (length w) && all_ascii_digits w) (nat_lt (digits_value 10 w) (2 ^ 32)) h in
    let q = and_parts (nat_lt 0 (length w)) (all_ascii_digits w) p.0 in
    fails (q.1, ltb-true 0 (length w) q.0, ltb-true (digits_value 10 w) (2 ^ 32) p.1)) in
    ap (λ v. cond v (Some (digits_value 10 w)) None) e

-- bytes that are no text are no number
pub no_text : {T E : Type 0} (w : List ℕ) (r : Result T E) (A : T → Type 0) (B : E → Type 0)
    → MatchResult r A (λ e. ¬ (IsUtf8 w) × B e) → result_ok r ≡ None → number_of w ≡ None
no_text w (Ok x) A B h e = absurd (cc)
no_text w (Err x) A B h e =
    number_of-no w (λ d. h.0 (IsUtf8-from_ascii w (IsAscii-from_digits w (own.to w d.0))))

-- the text that bytes are has these bytes
pub text_of : {T E : Type 0} (now : T → List ℕ) (w : List ℕ) (s : T) (r : Result T E) (A : T → Type 0) (B : E → Type 0)
    → MatchResult r (λ x. (now x ≡ w) × A x) B → result_ok r ≡ Some s → now s ≡ w
text_of now w s (Ok x) A B h e = let f : x ≡ s = cc in sym (ap now f) ∙ h.0
text_of now w s (Err x) A B h e = absurd (cc)

-- what `parse` reads is the number
pub read_number : {E : Type 0} (w : List ℕ) (r : Result ℕ E)
    → OkIff r ((all_ascii_digits w ≡ true) × (0 < length w) × (digits_value 10 w < 2 ^ 32)) (digits_value 10 w)
    → result_ok r ≡ number_of w
read_number w (Ok x) h = ap (λ n. Some n) h.1 ∙ sym (number_of-yes w h.0.0 h.0.1 h.0.2)
read_number w (Err e) h = sym (number_of-no w h)

-- a number of 32 bits that is written in decimal: its digits, and that it reads as itself
pub decimal_digits : (n : ℕ) → n < 2 ^ 32
    → (all_ascii_digits (decimal n) ≡ true) × (0 < length (decimal n)) × (number_of (decimal n) ≡ Some n)
decimal_digits n small =
    let p = decimal_is_IsNumeral n (omega arith) in
    let d : all_ascii_digits (decimal n) ≡ true = own.from (decimal n) p.0.1 in
    (d, p.0.0, number_of-yes (decimal n) d p.0.0 (omega (arith, p.1)) ∙ ap (λ k. Some k) p.1)
