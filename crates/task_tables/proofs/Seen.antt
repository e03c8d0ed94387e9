-- The bytes of a character that is seen as another.
use Rattle.std.proofs.Common.{◌≡◌, ℕ, ◌+◌, ◌*◌, ◌/◌, ◌%◌, ◌<◌, ◌≤◌, Bool, true, false, List, [], ◌∷◌, ◌++◌, length}
use Rattle.std.proofs.Common.{append-nil, map, inl, inr, refl, sym, ap, ◌∙◌, arith}
use Rattle.std.specs.Prelude.{ltb}
use Rattle.std.specs.Char.{encode_utf8, is_ascii_control}
use Rattle.std.proofs.lemmas.Bool.{cases_lt, cases_Bool, lt-ltb, le-ltb}
use Rattle.std.specs.List.{AllByRecursion}
use Rattle.std.proofs.lemmas.List.{append_assoc, map-append}
use Rattle.task_tables.specs.Printables.{printable_char, printable_text}

-- a byte of a character of more than one stays
control_below : (b : ℕ) → 128 ≤ b → is_ascii_control b ≡ false
control_below b le = grind arith

stays : (b : ℕ) → 128 ≤ b → printable_char b ≡ b
stays b le = rw (control_below b le) refl

stay : (bs : List ℕ) → AllByRecursion (λ b. 128 ≤ b) bs → printable_text bs ≡ bs
stay [] all = refl
stay (b ∷ bs) all = rw (stays b all.0, stay bs all.1) refl

one_byte : (c : ℕ) → c < 128 → encode_utf8 c ≡ c ∷ []
unfolding encode_utf8
one_byte c lt = rw (lt-ltb c 128 lt) refl

far : (c : ℕ) → 128 ≤ c → AllByRecursion (λ b. 128 ≤ b) (encode_utf8 c)
unfolding encode_utf8
far c le =
    elim (cases_Bool (ltb c 2048)) [
      | inl e ↦ rw (le-ltb c 128 le, e) (omega arith, (omega arith, tt))
      | inr e ↦
          elim (cases_Bool (ltb c 65536)) [
            | inl e2 ↦ rw (le-ltb c 128 le, e, e2) (omega arith, (omega arith, (omega arith, tt)))
            | inr e2 ↦ rw (le-ltb c 128 le, e, e2) (omega arith, (omega arith, (omega arith, (omega arith, tt))))
          ]
    ]

seen_below : (c : ℕ) → c < 128 → printable_char c < 128
seen_below c lt =
    elim (cases_Bool (is_ascii_control c)) [
      | inl e ↦ rw e (omega arith)
      | inr e ↦ rw e lt
    ]

-- the bytes of a character, as they are seen, are those of the character that is seen
pub seen_char : (c : ℕ) → printable_text (encode_utf8 c) ≡ encode_utf8 (printable_char c)
seen_char c =
    elim (cases_lt c 128) [
      | inl lt ↦ ap printable_text (one_byte c lt) ∙ sym (one_byte (printable_char c) (seen_below c lt))
      | inr ge ↦ stay (encode_utf8 c) (far c (omega arith)) ∙ ap encode_utf8 (sym (stays c (omega arith)))
    ]

-- a character more that is seen
pub seen_more : (text before rest seen : List ℕ) (c : ℕ) → printable_text text ≡ seen ++ printable_text before
    → before ≡ encode_utf8 c ++ rest
    → printable_text text ≡ (seen ++ encode_utf8 (printable_char c)) ++ printable_text rest
seen_more text before rest seen c so_far is =
    let parts : printable_text before ≡ encode_utf8 (printable_char c) ++ printable_text rest =
    ap printable_text is ∙ map-append printable_char (encode_utf8 c) rest
    ∙ ap (λ w. w ++ printable_text rest) (seen_char c) in
    so_far ∙ ap (λ w. seen ++ w) parts ∙ sym (append_assoc seen (encode_utf8 (printable_char c)) (printable_text rest))

pub seen_all : (text rest seen : List ℕ) → printable_text text ≡ seen ++ printable_text rest → length rest ≡ 0
    → seen ≡ printable_text text
seen_all text [] seen so_far none = sym (so_far ∙ append-nil seen)
seen_all text (b ∷ rest) seen so_far none = absurd (omega arith)
