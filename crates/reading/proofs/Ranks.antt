-- Entries of one size, and what stands at a rank.
use Rattle.std.proofs.Common.{◌≡◌, ℕ, zero, suc, ◌+◌, ◌-◌, ◌*◌, ◌≤◌, List, [], ◌∷◌, ◌++◌, map, length, take, drop, Some}
use Rattle.std.proofs.Common.{None, Option, refl, ap, ◌∙◌, subst, arith, Bor}
use Rattle.std.specs.Option.{option_map, IfSome}
use Rattle.std.specs.List.{All}
use Rattle.std.specs.Slice.{IsGetRangeResult}
use Rattle.std.proofs.lemmas.List.{drop_all, drop-append-le, length-append, length-drop, length-map}
use Rattle.std.proofs.lemmas.List.Elements.{All-drop, All-head, All-map, All-tail}
use Rattle.std.proofs.Math.Seq.{drop-append-add, take-append_seam}
use Rattle.rows.specs.declared.tasks.Row.{Row}
use Rattle.rows.specs.Lists.{first_of, at_rank}
use Rattle.rows.specs.declared.verdicts.Finding.{Finding}
use Rattle.leaves.specs.declared.entries.Entry.{Entry}
use Rattle.leaves.specs.declared.entries.Entry.TheVariants.{Row as row, Finding as finding}
use Rattle.leaves.specs.Entries.{entry_bytes, row_size, finding_size}
use Rattle.leaves.specs.Contents.{bytes_of}
use Rattle.reading.specs.Bodies.{body_of, AreOfSize}

-- rows are of one size, and so are findings
pub rows_of_size : (rs : List Row) → AreOfSize row_size (map row rs)
rows_of_size rs = All-map (λ e. length (entry_bytes e) ≡ 1 + row_size) row rs (λ k d within. refl)

pub findings_of_size : (fs : List Finding) → AreOfSize finding_size (map finding fs)
findings_of_size fs = All-map (λ e. length (entry_bytes e) ≡ 1 + finding_size) finding fs (λ k d within. refl)

-- the element at a rank of a list is carried along with it
pub at_rank_map : {X Y : Type 0} (f : X → Y) (rank : ℕ) (xs : List X)
    → at_rank rank (map f xs) ≡ option_map f (at_rank rank xs)
at_rank_map f zero xs = refl
at_rank_map f (suc zero) [] = refl
at_rank_map f (suc zero) (x ∷ xs) = refl
at_rank_map f (suc (suc i)) [] = refl
at_rank_map f (suc (suc i)) (x ∷ xs) = at_rank_map f (suc i) xs

-- what holds of all elements holds of the one at a rank
first_has : {X : Type 0} (P : X → Type 0) (xs : List X) → All P xs → IfSome (first_of xs) P
first_has P [] all = tt
first_has P (x ∷ xs) all = All-head P x xs all

pub at_rank_has : {X : Type 0} (P : X → Type 0) (rank : ℕ) (xs : List X) → All P xs → IfSome (at_rank rank xs) P
at_rank_has P zero xs all = tt
at_rank_has P (suc i) xs all = first_has P (drop i xs) (All-drop P i xs all)

module _ (size : ℕ) where
  -- an entry of the size has that many bytes and its letter
  abbrev IsOfSize : Entry → Type 0
  IsOfSize e = length (entry_bytes e) ≡ 1 + size

  -- so many bytes have entries of one size
  pub entries_length : (es : List Entry) → AreOfSize size es → length (bytes_of es) ≡ (1 + size) * length es
  entries_length [] all = omega arith
  entries_length (e ∷ es) all =
      omega (
        arith,
        length-append (entry_bytes e) (bytes_of es),
        All-head IsOfSize e es all,
        entries_length es (All-tail IsOfSize e es all),
      )

  -- behind the bytes of the first i entries stand those of the others
  pub drop_entries : (i : ℕ) (es : List Entry) → AreOfSize size es
      → drop ((1 + size) * i) (bytes_of es) ≡ bytes_of (drop i es)
  drop_entries zero es all = let none : (1 + size) * 0 ≡ 0 = omega arith in ap (λ n. drop n (bytes_of es)) none
  drop_entries (suc i) [] all = drop_all ((1 + size) * suc i) [] (omega arith)
  drop_entries (suc i) (e ∷ es) all =
      let next : (1 + size) * suc i ≡ length (entry_bytes e) + (1 + size) * i =
      omega (arith, All-head IsOfSize e es all) in
      ap (λ n. drop n (entry_bytes e ++ bytes_of es)) next
      ∙ drop-append-add (entry_bytes e) (bytes_of es) ((1 + size) * i)
      ∙ drop_entries i es (All-tail IsOfSize e es all)

  -- the body of the first entry is found in the bytes of all
  first_body : (es : List Entry) → AreOfSize size es → (r : Option (Bor (List ℕ)))
      → IsGetRangeResult (bytes_of es) 1 (1 + size) r → option_map (λ b. b.now) r ≡ option_map body_of (first_of es)
  first_body [] all None got = refl
  first_body [] all (Some b) got = absurd (omega (arith, got.0.1))
  first_body (e ∷ es) all None got =
      absurd (omega (arith, got.0, length-append (entry_bytes e) (bytes_of es), All-head IsOfSize e es all))
  first_body (e ∷ es) all (Some b) got =
      let one = All-head IsOfSize e es all in
      let rest : length (body_of e) ≡ size = omega (arith, length-drop 1 (entry_bytes e)) in
      ap Some (got.0.2
      ∙ ap (take (1 + size - 1)) (drop-append-le 1 (entry_bytes e) (bytes_of es) (omega (arith, one)))
      ∙ ap (λ n. take n (body_of e ++ bytes_of es)) (omega (arith, rest))
      ∙ take-append_seam (body_of e) (bytes_of es))

  -- too few bytes have no first entry
  no_first : (es : List Entry) → AreOfSize size es → length (bytes_of es) ≤ size → first_of es ≡ None
  no_first [] all few = refl
  no_first (e ∷ es) all few =
      absurd (omega (arith, few, length-append (entry_bytes e) (bytes_of es), All-head IsOfSize e es all))

  module _ (bytes : List ℕ) (i : ℕ) (es : List Entry) (all : AreOfSize size es) (same : bytes ≡ bytes_of es) where
    -- the bytes behind the first i entries
    behind : drop ((1 + size) * i) bytes ≡ bytes_of (drop i es)
    behind = ap (drop ((1 + size) * i)) same ∙ drop_entries i es all

    -- a body is found at the rank after i, the body of its entry
    pub body_found : (part : List ℕ) → part ≡ drop ((1 + size) * i) bytes → (r : Option (Bor (List ℕ)))
        → IsGetRangeResult part 1 (1 + size) r → option_map (λ b. b.now) r ≡ option_map body_of (at_rank (suc i) es)
    body_found part from r got =
        first_body (drop i es) (All-drop IsOfSize i es all) r
        (subst (λ xs. IsGetRangeResult xs 1 (1 + size) r) (from ∙ behind) got)

    -- past the last byte no body is found
    pub none_past : length bytes ≤ (1 + size) * i → at_rank (suc i) es ≡ None
    none_past past =
        no_first (drop i es) (All-drop IsOfSize i es all)
        (omega (arith, past, ap length behind, length-drop ((1 + size) * i) bytes))

-- how long the bytes of rows and of findings are
pub rows_length : (rs : List Row) → length (bytes_of (map row rs)) ≡ (1 + row_size) * length rs
rows_length rs =
    entries_length row_size (map row rs) (rows_of_size rs) ∙ ap (λ n. (1 + row_size) * n) (length-map rs row)

pub findings_length : (fs : List Finding) → length (bytes_of (map finding fs)) ≡ (1 + finding_size) * length fs
findings_length fs =
    entries_length finding_size (map finding fs) (findings_of_size fs)
    ∙ ap (λ n. (1 + finding_size) * n) (length-map fs finding)
