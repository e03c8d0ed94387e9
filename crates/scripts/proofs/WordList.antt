-- The words of a line, one after the other.
use Rattle.std.proofs.Common.{◌≡◌, ℕ, suc, ◌+◌, ◌<◌, ◌≤◌, Bool, true, false, cond, List, [], ◌∷◌, length, take, drop}
use Rattle.std.proofs.Common.{refl, sym, ap, subst, ◌∙◌, arith}
use Rattle.std.specs.List.{filter, position_or_len, prefix_len, slice_split}
use Rattle.std.specs.Prelude.{nat_lt}
use Rattle.std.proofs.lemmas.Bool.{lt-ltb}
use Rattle.std.proofs.lemmas.List.Splits.{length-slice_split}
use Rattle.std.proofs.lemmas.List.Sums.{length-filter, count_by-le-length}
use Rattle.numerals.specs.Numerals.{is_blank}
use Rattle.scripts.specs.Words.{words_of}

-- a word has a byte
abbrev has_byte : List ℕ → Bool
has_byte word = nat_lt 0 (length word)

-- a number counted from the front
one_plus : (n : ℕ) → 1 + n ≡ suc n
one_plus n = omega arith

-- a part that has a byte is a word
kept : (b : ℕ) (bs : List ℕ) (parts : List (List ℕ))
    → filter has_byte ((b ∷ bs) ∷ parts) ≡ (b ∷ bs) ∷ filter has_byte parts
kept b bs parts =
    let some : nat_lt 0 (length (b ∷ bs)) ≡ true = lt-ltb 0 (length (b ∷ bs)) (omega arith) in
    ap (λ v. cond v ((b ∷ bs) ∷ filter has_byte parts) (filter has_byte parts)) some

-- the part before the first blank, and the words after it
record Parted (bs : List ℕ) (n : ℕ) : Type 0 where
  rest : List (List ℕ)
  split : slice_split is_blank bs ≡ take n bs ∷ rest
  others : filter has_byte rest ≡ words_of (drop n bs)

length-blank : (b : ℕ) (bs : List ℕ) → is_blank b ≡ true → position_or_len is_blank (b ∷ bs) ≡ 0
length-blank b bs h = rw h refl

length-word : (b : ℕ) (bs : List ℕ) → is_blank b ≡ false
    → position_or_len is_blank (b ∷ bs) ≡ suc (position_or_len is_blank bs)
length-word b bs h = rw h (one_plus _)

parted_by : (b : ℕ) (bs : List ℕ) (v : Bool) → is_blank b ≡ v → Parted bs (position_or_len is_blank bs)
    → Parted (b ∷ bs) (position_or_len is_blank (b ∷ bs))
parted_by b bs true h p =
    subst (λ n. Parted (b ∷ bs) n) (sym (length-blank b bs h))
    (record { rest = slice_split is_blank bs; split = rw h refl; others = rw h refl })
parted_by b bs false h p =
    subst (λ n. Parted (b ∷ bs) n) (sym (length-word b bs h))
    (record { rest = p.rest; split = rw (h, p.split) refl; others = p.others })

parted : (bs : List ℕ) → Parted bs (position_or_len is_blank bs)
parted [] = record { rest = []; split = refl; others = refl }
parted (b ∷ bs) = parted_by b bs (is_blank b) refl (parted bs)

-- a byte that parts words stands in none
words_of-blank : (b : ℕ) (bs : List ℕ) → is_blank b ≡ true → words_of (b ∷ bs) ≡ words_of bs
words_of-blank b bs h = rw h refl

-- a line that begins with a byte of a word begins with that word
words_of-word : (b : ℕ) (bs : List ℕ) → is_blank b ≡ false
    → words_of (b ∷ bs) ≡ (b ∷ take (position_or_len is_blank bs) bs) ∷ words_of (drop (position_or_len is_blank bs) bs)
words_of-word b bs h =
    let p : Parted bs (position_or_len is_blank bs) = parted bs in
    let e : slice_split is_blank (b ∷ bs) ≡ (b ∷ take (position_or_len is_blank bs) bs) ∷ p.rest =
    rw (h, p.split) refl in
    ap (λ parts. filter has_byte parts) e
    ∙ (kept b (take (position_or_len is_blank bs) bs) p.rest
    ∙ ap (λ ws. (b ∷ take (position_or_len is_blank bs) bs) ∷ ws) p.others)

-- what a line from its first word on says of the words: there is none where no byte comes before the next blank, and
-- else that part is the first
pub record NextWord (line rest : List ℕ) (n : ℕ) : Type 0 where
  pub none : length (take n rest) ≡ 0 → words_of line ≡ []
  pub some : 0 < length (take n rest) → words_of line ≡ take n rest ∷ words_of (drop n rest)

next_by : (b : ℕ) (bs : List ℕ) (v : Bool) → is_blank b ≡ v
    → NextWord bs (drop (prefix_len is_blank bs) bs) (position_or_len is_blank (drop (prefix_len is_blank bs) bs))
    → NextWord (b ∷ bs) (drop (prefix_len is_blank (b ∷ bs)) (b ∷ bs))
    (position_or_len is_blank (drop (prefix_len is_blank (b ∷ bs)) (b ∷ bs)))
next_by b bs true h w =
    let e : words_of (b ∷ bs) ≡ words_of bs = words_of-blank b bs h in
    let at : prefix_len is_blank (b ∷ bs) ≡ suc (prefix_len is_blank bs) = rw h (one_plus _) in
    let N : ℕ → Type 0 = λ k. NextWord (b ∷ bs) (drop k (b ∷ bs)) (position_or_len is_blank (drop k (b ∷ bs))) in
    subst N (sym at) (record { none = λ z. e ∙ w.none z; some = λ z. e ∙ w.some z })
next_by b bs false h w =
    let at : prefix_len is_blank (b ∷ bs) ≡ 0 = rw h refl in
    let N : ℕ → Type 0 = λ k. NextWord (b ∷ bs) (drop k (b ∷ bs)) (position_or_len is_blank (drop k (b ∷ bs))) in
    let M : ℕ → Type 0 = λ k. NextWord (b ∷ bs) (b ∷ bs) k in
    subst N (sym at)
    (subst M (sym (length-word b bs h))
    (record { none = λ z. absurd (omega (arith, z)); some = λ _. words_of-word b bs h }))

pub next_word : (line : List ℕ)
    → NextWord line (drop (prefix_len is_blank line) line)
    (position_or_len is_blank (drop (prefix_len is_blank line) line))
next_word [] = record { none = λ _. refl; some = λ z. absurd (omega (arith, z)) }
next_word (b ∷ bs) = next_by b bs (is_blank b) refl (next_word bs)

-- what a line says of its words, from the parts that it is cut into
pub taken : (line rest front back : List ℕ) (start n : ℕ) → start ≡ prefix_len is_blank line → rest ≡ drop start line
    → n ≡ position_or_len is_blank rest → front ≡ take n rest → back ≡ drop n rest
    → (length front ≡ 0 → words_of line ≡ []) × (0 < length front → words_of line ≡ front ∷ words_of back)
taken line rest front back start n at tail long f b =
    let w : NextWord line (drop (prefix_len is_blank line) line)
    (position_or_len is_blank (drop (prefix_len is_blank line) line)) = next_word line in
    let whole : drop (prefix_len is_blank line) line ≡ rest = ap (λ k. drop k line) (sym at) ∙ sym tail in
    let N : List ℕ → Type 0 = λ xs. NextWord line xs (position_or_len is_blank xs) in
    let M : ℕ → Type 0 = λ k. NextWord line rest k in
    let u : NextWord line rest n = subst M (sym long) (subst N whole w) in
    let P : List ℕ → List ℕ
    → Type 0 = λ x y. (length x ≡ 0 → words_of line ≡ []) × (0 < length x → words_of line ≡ x ∷ words_of y) in
    subst (λ x. P x back) (sym f) (subst (λ y. P (take n rest) y) (sym b) (u.none, u.some))

-- a line has not many more words than bytes
pub length_words_of : (line : List ℕ) → length (words_of line) ≤ length line + 1
length_words_of line =
    omega (
      arith,
      length-filter has_byte (slice_split is_blank line),
      count_by-le-length has_byte (slice_split is_blank line),
      length-slice_split is_blank line,
      count_by-le-length is_blank line,
    )
