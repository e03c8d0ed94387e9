-- The word of each kind of bound is one by which a line can name it.
use Rattle.std.proofs.Common.{◌≡◌, ℕ, ◌<◌, ◌≤◌, Bool, true, false, cond, List, [], ◌∷◌, length, map, find, Some, None}
use Rattle.std.proofs.Common.{Option, refl, sym, ap, ◌∙◌, arith}
use Rattle.std.specs.Prelude.{nat_lt, nat_le, ◌==◌, ◌&&◌}
use Rattle.std.specs.List.{AllByRecursion, list_all}
use Rattle.std.specs.Option.{option_map, option_map_or}
use Rattle.std.specs.Str.{bytes_eq}
use Rattle.std.proofs.lemmas.Bool.{and_parts, eqb-true}
use Rattle.std.proofs.lemmas.Bool.Decides.{nat_tests}
use Rattle.bounds.specs.declared.families.Family.{Family}
use Rattle.bounds.specs.declared.families.TheConstants.Family.{ALL}
use Rattle.bounds.specs.Families.{family_number, family_of_number, family_word}
use Rattle.bounds.proofs.Numbered.{numbered}
use Rattle.scripts.specs.declared.forms.LineForm.TheVariants.{Bound}
use Rattle.scripts.specs.Forms.{form_for, form_name}

-- the first kind of bound whose word a word is
abbrev kind_named : List ℕ → Option Family
kind_named word = find (λ f. bytes_eq (family_word f) word) ALL

-- a byte above the last that begins a comment: it parts no words either, and ends no line
abbrev is_of_word : ℕ → Bool
is_of_word b = nat_lt 35 b

-- every byte of a word is such a one
abbrev pub InWord : List ℕ → Type 0
InWord w = AllByRecursion (λ b. 36 ≤ b) w

-- the word of a kind names that kind, has a byte and not many, and is of such bytes
abbrev is_named_well : Family → Bool
is_named_well f =
    option_map_or (λ g. family_number g == family_number f) (kind_named (family_word f)) false
    && (nat_lt 0 (length (family_word f))
    && (nat_le (length (family_word f)) 100 && list_all is_of_word (family_word f)))

-- so it is of each kind of the list, whichever these are
all_named_well : list_all is_named_well ALL ≡ true
all_named_well = refl

-- what all of a list pass, one that is found in it passes
found_passes : {X : Type 0} (p q : X → Bool) (xs : List X) (y : X) → list_all q xs ≡ true → find p xs ≡ Some y
    → q y ≡ true
found_passes p q [] y all is = cc
found_passes p q (x ∷ xs) y all is = by (p x) is (found_passes p q xs y (and_parts (q x) (list_all q xs) all).1)
  where
    by : (b : Bool) → cond b (Some x) (find p xs) ≡ Some y → (find p xs ≡ Some y → q y ≡ true) → q y ≡ true
    by true is later = let same : x ≡ y = cc in ap q (sym same) ∙ (and_parts (q x) (list_all q xs) all).0
    by false is later = later is

-- kinds of one number are one kind
same_kind : (f g : Family) → family_number g ≡ family_number f → g ≡ f
same_kind f g same = let is : Some g ≡ Some f = sym (numbered g) ∙ ap family_of_number same ∙ numbered f in cc

-- the kind that is found is the one of a number that is as wanted
found_kind : (r : Option Family) (f : Family) → option_map_or (λ g. family_number g == family_number f) r false ≡ true
    → r ≡ Some f
found_kind None f is = cc
found_kind (Some g) f is = ap Some (same_kind f g (eqb-true (family_number g) (family_number f) is))

-- what is found of values that are made of others is made of what is found of these
find_made : {X Y : Type 0} (h : X → Y) (p : Y → Bool) (xs : List X)
    → find p (map h xs) ≡ option_map h (find (λ x. p (h x)) xs)
find_made h p [] = refl
find_made h p (x ∷ xs) = by (p (h x)) (find_made h p xs)
  where
    by : (b : Bool) → find p (map h xs) ≡ option_map h (find (λ x. p (h x)) xs)
        → cond b (Some (h x)) (find p (map h xs)) ≡ option_map h (cond b (Some x) (find (λ x. p (h x)) xs))
    by true later = refl
    by false later = later

-- until a bound has been named, a word names the form of the kind of bound whose word it is
form_of_kind : (word : List ℕ) → form_for false word ≡ option_map Bound (kind_named word)
form_of_kind word = find_made Bound (λ form. bytes_eq (form_name form) word) ALL

-- the test of the bytes says so
word_bytes : (bs : List ℕ) → list_all is_of_word bs ≡ true → InWord bs
word_bytes [] all = tt
word_bytes (b ∷ bs) all =
    let parts = and_parts (is_of_word b) (list_all is_of_word bs) all in
    let high : is_of_word b ≡ true = parts.0 in
    (grind (arith, nat_tests), word_bytes bs parts.1)

-- what is known of the word of a kind of bound
pub record NamesWell (f : Family) : Type 0 where
  pub found : form_for false (family_word f) ≡ Some (Bound f)
  pub some : 0 < length (family_word f)
  pub short : length (family_word f) ≤ 100
  pub bytes : InWord (family_word f)

pub names_well : (f : Family) → NamesWell f
names_well f =
    let well : is_named_well f ≡ true =
    found_passes (λ g. family_number g == family_number f) is_named_well ALL f all_named_well (numbered f) in
    let kind = and_parts _ _ well in
    let some = and_parts _ _ kind.1 in
    let short = and_parts _ _ some.1 in
    let has_byte : nat_lt 0 (length (family_word f)) ≡ true = some.0 in
    let few : nat_le (length (family_word f)) 100 ≡ true = short.0 in
    record {
      found = form_of_kind (family_word f) ∙ ap (option_map Bound) (found_kind (kind_named (family_word f)) f kind.0);
      some = grind (arith, nat_tests);
      short = grind (arith, nat_tests);
      bytes = word_bytes (family_word f) short.1;
    }
