-- What is written of a call or a bound reads as that.
use Rattle.std.proofs.Common.{◌≡◌, ℕ, ◌<◌, ◌≤◌, ◌^◌, Bool, true, false, cond, List, [], ◌∷◌, ◌++◌, length, get_or, Some}
use Rattle.std.proofs.Common.{refl, sym, ap, ◌∙◌, arith, append-nil}
use Rattle.std.specs.Prelude.{nat_lt, decimal, ◌==◌}
use Rattle.std.specs.Char.{is_ascii_digit}
use Rattle.std.specs.List.{filter, slice_split}
use Rattle.std.specs.Str.{all_ascii_digits}
use Rattle.std.proofs.lemmas.Bool.{and_parts, ne_eqb, lt-ltb, le-ltb}
use Rattle.std.proofs.lemmas.Bool.Decides.{nat_tests}
use Rattle.std.proofs.lemmas.Fmt.{length-decimal-le}
use Rattle.std.proofs.lemmas.List.{length-append}
use Rattle.bounds.specs.declared.families.Family.{Family}
use Rattle.bounds.specs.Families.{family_word, has_accuracies}
use Rattle.admission.specs.declared.calls.Call.{Call as BenchCall}
use Rattle.admission.specs.declared.calls.Call.TheVariants.{Frame, Admit, Dismiss, Inquire}
use Rattle.scripts.specs.declared.lines.ScriptLine.TheVariants.{Bound, Call}
use Rattle.scripts.specs.declared.forms.LineForm.TheVariants.{Bound as BoundForm}
use Rattle.scripts.specs.Lines.{line_by_form, line_of}
use Rattle.scripts.specs.Texts.{bound_text, call_text, numbers_text, FitsBound, FitsLine}
use Rattle.numerals.specs.Numerals.{is_blank, number_of}
use Rattle.scripts.specs.Words.{words_of}
use Rattle.numerals.proofs.NumberOf.{decimal_digits}
use Rattle.scripts.proofs.WordsOfBounds.{InWord, names_well}

-- a byte of a word parts no words
no_blank : (b : ℕ) → 36 ≤ b → is_blank b ≡ false
no_blank b high = rw (ne_eqb b 32 (λ e. omega arith), ne_eqb b 9 (λ e. omega arith)) refl

split_word : (w rest : List ℕ) → InWord w → slice_split is_blank (w ++ 32 ∷ rest) ≡ w ∷ slice_split is_blank rest
split_word [] rest d = refl
split_word (b ∷ w) rest d = rw (no_blank b d.0, split_word w rest d.1) refl

split_last : (w : List ℕ) → InWord w → slice_split is_blank w ≡ w ∷ []
split_last [] d = refl
split_last (b ∷ w) d = rw (no_blank b d.0, split_last w d.1) refl

kept : (w : List ℕ) (parts : List (List ℕ)) → 0 < length w
    → filter (λ word. nat_lt 0 (length word)) (w ∷ parts) ≡ w ∷ filter (λ word. nat_lt 0 (length word)) parts
kept w parts some =
    ap (λ v. cond v (w ∷ filter (λ word. nat_lt 0 (length word)) parts) (filter (λ word. nat_lt 0 (length word)) parts))
    (lt-ltb 0 (length w) some)

words_of-word : (w rest : List ℕ) → InWord w → 0 < length w → words_of (w ++ 32 ∷ rest) ≡ w ∷ words_of rest
words_of-word w rest d some =
    ap (λ parts. filter (λ word. nat_lt 0 (length word)) parts) (split_word w rest d)
    ∙ kept w (slice_split is_blank rest) some

words_of-whole : (w : List ℕ) → InWord w → 0 < length w → words_of w ≡ w ∷ []
words_of-whole w d some =
    ap (λ parts. filter (λ word. nat_lt 0 (length word)) parts) (split_last w d) ∙ kept w [] some

-- a printed number: its digits as a word, and that it reads as itself
record Printed (n : ℕ) : Type 0 where
  digits : InWord (decimal n)
  some : 0 < length (decimal n)
  short : length (decimal n) ≤ 10
  read : number_of (decimal n) ≡ Some n

digit_is_high : (b : ℕ) → is_ascii_digit b ≡ true → 36 ≤ b
digit_is_high b d = grind (arith, nat_tests)

digits_are_high : (w : List ℕ) → all_ascii_digits w ≡ true → InWord w
digits_are_high [] d = tt
digits_are_high (b ∷ w) d =
    let p = and_parts (is_ascii_digit b) (all_ascii_digits w) d in
    (digit_is_high b p.0, digits_are_high w p.1)

printed : (n : ℕ) → n < 2 ^ 32 → Printed n
printed n small =
    let p = decimal_digits n small in
    record {
      digits = digits_are_high (decimal n) p.0;
      some = p.1;
      short = length-decimal-le 10 n (omega arith) (omega arith) (omega arith);
      read = p.2;
    }

words_of-first : (n : ℕ) (rest : List ℕ) → Printed n → words_of (decimal n ++ 32 ∷ rest) ≡ decimal n ∷ words_of rest
words_of-first n rest p = words_of-word (decimal n) rest p.digits p.some

words_of-last : (n : ℕ) → Printed n → words_of (decimal n) ≡ decimal n ∷ []
words_of-last n p = words_of-whole (decimal n) p.digits p.some

-- a line that begins with a word is no comment
begins_with_word : (w rest : List ℕ) → InWord w → 0 < length w → (get_or (w ++ rest) 0 0 == 35) ≡ false
begins_with_word [] rest d some = absurd (omega arith)
begins_with_word (b ∷ w) rest d some = ne_eqb b 35 (λ e. omega (arith, d.0))

module _ (f : Family) (k : ℕ) (fits : FitsBound f k) where
  -- the line that begins with the word of a kind of bound, by its words
  by_its_words : (rest : List ℕ) (words : List (List ℕ)) → length rest ≤ 11
      → words_of (family_word f ++ rest) ≡ family_word f ∷ words
      → line_of false (family_word f ++ rest) ≡ line_by_form (BoundForm f) words
  by_its_words rest words few are =
      let w = names_well f in
      let short : nat_lt 128 (length (family_word f ++ rest)) ≡ false =
      le-ltb 128 (length (family_word f ++ rest)) (omega (arith, w.short, few, length-append (family_word f) rest)) in
      rw (begins_with_word (family_word f) rest w.bytes w.some, short, are, w.found) refl

  reads_by : (v : Bool) → has_accuracies f ≡ v → line_of false (bound_text f k) ≡ Bound f k
  reads_by true told =
      let p : Printed k = printed k fits.small in
      let w = names_well f in
      ap (λ v. line_of false (cond v (family_word f ++ 32 ∷ decimal k) (family_word f))) told
      ∙ by_its_words (32 ∷ decimal k) (decimal k ∷ []) (omega (arith, p.short))
      (words_of-word (family_word f) (decimal k) w.bytes w.some ∙ ap (λ ws. family_word f ∷ ws) (words_of-last k p))
      ∙ rw (told, p.read) refl
  reads_by false told =
      let w = names_well f in
      ap (λ v. line_of false (cond v (family_word f ++ 32 ∷ decimal k) (family_word f))) told
      ∙ ap (line_of false) (sym (append-nil (family_word f)))
      ∙ by_its_words [] [] (omega arith)
      (ap words_of (append-nil (family_word f)) ∙ words_of-whole (family_word f) w.bytes w.some)
      ∙ rw told (ap (Bound f) (sym (fits.told told)))

  pub bound_reads : line_of false (bound_text f k) ≡ Bound f k
  bound_reads = reads_by (has_accuracies f) refl

pub call_reads : (call : BenchCall) → FitsLine call → line_of true (call_text call) ≡ Call call
call_reads (Frame h) small =
    let p : Printed h.ticks = printed h.ticks small in
    let short : nat_lt 128 (length (call_text (Frame h))) ≡ false =
    le-ltb 128 (length (call_text (Frame h))) (omega (arith, p.short)) in
    rw (short, words_of-last h.ticks p, p.read) refl
call_reads (Dismiss rank) small =
    let p : Printed rank = printed rank small in
    let short : nat_lt 128 (length (call_text (Dismiss rank))) ≡ false =
    le-ltb 128 (length (call_text (Dismiss rank))) (omega (arith, p.short)) in
    rw (short, words_of-last rank p, p.read) refl
call_reads (Inquire rank) small =
    let p : Printed rank = printed rank small in
    let short : nat_lt 128 (length (call_text (Inquire rank))) ≡ false =
    le-ltb 128 (length (call_text (Inquire rank))) (omega (arith, p.short)) in
    rw (short, words_of-last rank p, p.read) refl
call_reads (Admit rank n) small =
    let p : Printed rank = printed rank small.0 in
    let w : Printed n.work = printed n.work small.1.work in
    let d : Printed n.deadline = printed n.deadline small.1.deadline in
    let t : Printed n.period = printed n.period small.1.period in
    let j : Printed n.jitter = printed n.jitter small.1.jitter in
    let rest4 : words_of (decimal n.period ++ 32 ∷ decimal n.jitter) ≡ decimal n.period ∷ decimal n.jitter ∷ [] =
    words_of-first n.period (decimal n.jitter) t ∙ ap (λ ws. decimal n.period ∷ ws) (words_of-last n.jitter j) in
    let rest3 = words_of-first n.deadline (decimal n.period ++ 32 ∷ decimal n.jitter) d
    ∙ ap (λ ws. decimal n.deadline ∷ ws) rest4 in
    let rest2 = words_of-first n.work (decimal n.deadline ++ 32 ∷ (decimal n.period ++ 32 ∷ decimal n.jitter)) w
    ∙ ap (λ ws. decimal n.work ∷ ws) rest3 in
    let rest1 = words_of-first rank (numbers_text n) p ∙ ap (λ ws. decimal rank ∷ ws) rest2 in
    let l4 = length-append (decimal n.period) (32 ∷ decimal n.jitter) in
    let l3 = length-append (decimal n.deadline) (32 ∷ (decimal n.period ++ 32 ∷ decimal n.jitter)) in
    let l2 = length-append (decimal n.work)
    (32 ∷ (decimal n.deadline ++ 32 ∷ (decimal n.period ++ 32 ∷ decimal n.jitter))) in
    let l1 = length-append (decimal rank) (32 ∷ numbers_text n) in
    let short : nat_lt 128 (length (call_text (Admit rank n))) ≡ false =
    le-ltb 128 (length (call_text (Admit rank n)))
    (omega (arith, p.short, w.short, d.short, t.short, j.short, l1, l2, l3, l4)) in
    rw (short, rest1, p.read, w.read, d.read, t.read, j.read) refl
