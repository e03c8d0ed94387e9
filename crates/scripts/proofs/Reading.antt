-- Numbers read one after the other.
use Rattle.std.proofs.Common.{◌≡◌, ℕ, ◌+◌, ◌<◌, ◌≤◌, add-one, List, [], ◌∷◌, ◌++◌, Some, None, Result, Ok, Err, length}
use Rattle.std.proofs.Common.{take, drop, get_or, set, refl, sym, ap, ◌∙◌}
use Rattle.std.proofs.Math.Seq.{take-suc-set}
use Rattle.std.proofs.lemmas.List.{at_drop_more, at_drop_all}
use Rattle.scripts.specs.declared.forms.Field.{Field}
use Rattle.scripts.specs.declared.forms.Field.TheVariants.{Rank}
use Rattle.scripts.specs.Lines.{numbers_of, put_first}
use Rattle.numerals.specs.Numerals.{number_of}

pub numbers_of_cons : (n : ℕ) (words : List (List ℕ)) (word : List ℕ) (rest : List (List ℕ)) → words ≡ word ∷ rest
    → number_of word ≡ Some n → (field : Field) (fields : List Field)
    → numbers_of (field ∷ fields) words ≡ put_first n (numbers_of fields rest)
numbers_of_cons n words word rest e h field fields = rw (e, h) refl

pub numbers_of_none : (words : List (List ℕ)) (word : List ℕ) (rest : List (List ℕ)) → words ≡ word ∷ rest
    → number_of word ≡ None → (field : Field) (fields : List Field) → numbers_of (field ∷ fields) words ≡ Err field
numbers_of_none words word rest e h field fields = rw (e, h) refl

pub numbers_of_end : (words : List (List ℕ)) → words ≡ [] → (field : Field) (fields : List Field)
    → numbers_of (field ∷ fields) words ≡ Err field
numbers_of_end words e field fields = rw e refl

-- numbers read so far, in front of those that are still to be read
pub joined : List ℕ → Result (List ℕ) Field → Result (List ℕ) Field
joined [] r = r
joined (n ∷ ns) r = put_first n (joined ns r)

pub joined_more : (ns : List ℕ) (n : ℕ) (r : Result (List ℕ) Field)
    → joined (ns ++ n ∷ []) r ≡ joined ns (put_first n r)
unfolding joined
joined_more [] n r = refl
joined_more (m ∷ ns) n r = ap (put_first m) (joined_more ns n r)

pub joined_none : (r : Result (List ℕ) Field) → joined [] r ≡ r
unfolding joined
joined_none r = refl

pub joined_all : (ns : List ℕ) → joined ns (Ok []) ≡ Ok ns
unfolding joined
joined_all [] = refl
joined_all (n ∷ ns) = ap (put_first n) (joined_all ns)

pub joined_fails : (ns : List ℕ) (field : Field) → joined ns (Err field) ≡ Err field
unfolding joined
joined_fails [] field = refl
joined_fails (n ∷ ns) field = ap (put_first n) (joined_fails ns field)

-- one more number is read
pub one_more : (before after words : List (List ℕ)) (fields : List Field) (ns : List ℕ) (place n : ℕ)
    → place < length fields → place < length ns
    → numbers_of fields before ≡ joined (take place ns) (numbers_of (drop place fields) words)
    → ((field : Field) (more : List Field) → numbers_of (field ∷ more) words ≡ put_first n (numbers_of more after))
    → numbers_of fields before ≡ joined (take (place + 1) (set ns place n)) (numbers_of (drop (place + 1) fields) after)
one_more before after words fields ns place n room space so_far read =
    let r : numbers_of (drop place fields) words ≡ put_first n (numbers_of (drop (place + 1) fields) after) =
    at_drop_more (λ fs. numbers_of fs words) fields place Rank room
    ∙ read (get_or fields place Rank) (drop (place + 1) fields) in
    let more : take (place + 1) (set ns place n) ≡ take place ns ++ n ∷ [] =
    rw add-one (take-suc-set ns place n space) in
    so_far
    ∙ (ap (joined (take place ns)) r
    ∙ (sym (joined_more (take place ns) n (numbers_of (drop (place + 1) fields) after))
    ∙ ap (λ xs. joined xs (numbers_of (drop (place + 1) fields) after)) (sym more)))

-- a word that is no number is told by its field
pub one_fails : (before words : List (List ℕ)) (fields : List Field) (ns : List ℕ) (place : ℕ) → place < length fields
    → numbers_of fields before ≡ joined ns (numbers_of (drop place fields) words)
    → ((field : Field) (more : List Field) → numbers_of (field ∷ more) words ≡ Err field)
    → numbers_of fields before ≡ Err (get_or fields place Rank)
one_fails before words fields ns place room so_far read =
    so_far
    ∙ (ap (joined ns)
    (at_drop_more (λ fs. numbers_of fs words) fields place Rank room
    ∙ read (get_or fields place Rank) (drop (place + 1) fields))
    ∙ joined_fails ns (get_or fields place Rank))

-- once the fields are at an end, the numbers are those read
pub all_read : (before words : List (List ℕ)) (fields : List Field) (ns : List ℕ) (place : ℕ) → length fields ≤ place
    → numbers_of fields before ≡ joined ns (numbers_of (drop place fields) words) → numbers_of fields before ≡ Ok ns
all_read before words fields ns place past so_far =
    so_far ∙ (ap (joined ns) (at_drop_all (λ fs. numbers_of fs words) fields place past) ∙ joined_all ns)
