-- Records that the default writer wrote are those that the default reader reads.
use Rattle.std.proofs.Common.{◌≡◌, ◌∙◌, ◌+◌, ◌<◌, ℕ, zero, suc, List, [], ◌∷◌, ◌++◌, Option, None, map, refl, sym, ap}
use Rattle.std.proofs.Common.{subst, drop, get_or, length, append_assoc, add-one, arith}
use Rattle.std.specs.Io.KnownBytes.{Appends}
use Rattle.std.proofs.lemmas.List.{at_drop_more}
use Rattle.csv.specs.Machine.{next_record}
use Rattle.csv.specs.Reading.{AreRecords, Reached, default_config}
use Rattle.csv.specs.Writing.{default_writer, read_back, row_text}
use Rattle.csv.specs.declared.parser.State.TheVariants as st
use Rattle.csv.proofs.RoundTrip.{read-write}
use Rattle.csv.proofs.WriteFacts.{appends-more}
use Rattle.grids.specs.CsvRecords.{rows_text}

reached : (records : List (List (List ℕ)))
    → Reached default_config st.StartRecord (rows_text records) (map read_back records) st.StartRecord []
unfolding Reached
reached [] = (refl, refl)
reached (fields ∷ rest) =
    ((read_back fields, st.StartRecord, rows_text rest), read-write fields (rows_text rest), refl, reached rest)

nothing_more : next_record default_config st.StartRecord [] [] [] ≡ None
unfolding next_record
nothing_more = refl

-- the text of records is read back as those records
pub are_records : (text : List ℕ) (records : List (List (List ℕ))) → text ≡ rows_text records
    → AreRecords default_config st.StartRecord text (map read_back records)
are_records text records is =
    let P : List ℕ → Type 0 = λ t. AreRecords default_config st.StartRecord t (map read_back records) in
    subst P (sym is) (st.StartRecord, [], reached records, nothing_more)

-- a list from a place within it on begins with an element
begins : {X : Type 0} (hs : List X) (i : ℕ) → i < length hs → (h : X) × (drop i hs ≡ h ∷ drop (suc i) hs)
begins [] i below = absurd (omega arith)
begins (h ∷ hs) zero below = (h, refl)
begins (h ∷ hs) (suc i) below = let rest = begins hs i (omega arith) in (rest.0, rest.1)

-- one more field, of what a list gives at each place
pub field_more : {X : Type 0} (f : List X → ℕ → List (List ℕ)) (x : ℕ → List ℕ)
    → ((h : X) (hs : List X) (n : ℕ) → f (h ∷ hs) n ≡ x n ∷ f hs (suc n))
    → (hs : List X) (i : ℕ) (old new all : List (List ℕ)) → i < length hs → new ≡ old ++ (x i ∷ [])
    → old ++ f (drop i hs) i ≡ all → new ++ f (drop (i + 1) hs) (i + 1) ≡ all
field_more f x step hs i old new all below put before =
    let first = begins hs i below in
    rw add-one (
    ap (λ (t : List (List ℕ)). t ++ f (drop (suc i) hs) (suc i)) put
    ∙ append_assoc old (x i ∷ []) (f (drop (suc i) hs) (suc i))
    ∙ ap (λ (t : List (List ℕ)). old ++ t) (sym (ap (λ l. f l i) first.1 ∙ step first.0 (drop (suc i) hs) i))
    ∙ before)

-- one more record
pub record_more : {X : Type 0} (f : X → List (List ℕ)) (xs : List X) (i : ℕ) (x : X) (a b c : Option (List ℕ))
    (bs all : List ℕ) → i < length xs → x ≡ get_or xs i x → Appends a b bs
    → bs ++ rows_text (map f (drop i xs)) ≡ all → Appends b c (row_text default_writer (f x))
    → (cs : List ℕ) × Appends a c cs × (cs ++ rows_text (map f (drop (i + 1) xs)) ≡ all)
record_more f xs i x a b c bs all below read put before wrote = (
  bs ++ row_text default_writer (f x),
  appends-more a b c _ _ put wrote,
  append_assoc bs (row_text default_writer (f x)) (rows_text (map f (drop (i + 1) xs)))
      ∙ ap (λ (y : _). bs ++ (row_text default_writer (f y) ++ rows_text (map f (drop (i + 1) xs)))) read
      ∙ ap (λ (t : List ℕ). bs ++ t) (sym (at_drop_more (λ l. rows_text (map f l)) xs i x below))
      ∙ before,
)

-- what is given back of a writer that had written nothing, once it has written two texts
pub text_is : (text third second first xs ys : List ℕ)
    → text ≡ third → third ≡ second ++ ys → second ≡ first ++ xs → first ≡ [] → text ≡ xs ++ ys
text_is text third second first xs ys given later sooner nothing =
    given ∙ later ∙ ap (λ (t : List ℕ). t ++ ys) (sooner ∙ ap (λ (t : List ℕ). t ++ xs) nothing)
