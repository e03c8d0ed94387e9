-- The rows of a leaf that was read, each with its finding.
use Rattle.std.proofs.Common.{◌≡◌, ℕ, zero, suc, ◌+◌, ◌/◌, ◌≤◌, List, [], ◌∷◌, map, length, drop, Some, None, Option}
use Rattle.std.proofs.Common.{sym, refl, ap, ◌∙◌, ap₂, arith}
use Rattle.std.specs.Option.{option_map, option_zip}
use Rattle.std.specs.List.{All, zip}
use Rattle.std.proofs.Math.Logic.{∥∥₁_elim}
use Rattle.std.proofs.Math.Bridge.{le_prop}
use Rattle.std.proofs.Props.{props}
use Rattle.std.proofs.lemmas.List.Elements.{All-head, All-tail}
use Rattle.rows.specs.declared.tasks.Numbers.{Numbers}
use Rattle.rows.specs.declared.tasks.Row.{Row}
use Rattle.rows.specs.declared.verdicts.Finding.{Finding}
use Rattle.rows.specs.Found.{Found, tells}
use Rattle.rows.specs.Judging.{plain}
use Rattle.rows.specs.Lists.{at_rank, first_of}
use Rattle.rows.specs.Times.{most_rows}
use Rattle.leaves.specs.declared.entries.Entry.TheVariants.{Row as row, Finding as finding}
use Rattle.leaves.specs.Contents.{Contents, bytes_of}
use Rattle.leaves.specs.Entries.{row_size}
use Rattle.leaves.specs.Judging.{IsFilable}
use Rattle.leaves.proofs.Fields.{row_again, finding_again}
use Rattle.reading.specs.declared.held.Leaf.{Leaf}
use Rattle.reading.specs.Leaves.{Holds, row_bytes, finding_bytes}
use Rattle.reading.specs.Told.{told, told_in, told_of, all_told}
use Rattle.reading.proofs.Ranks.{at_rank_map, rows_length}

-- bytes of rows and of as many findings tell these
told_are : (rs : List Row) (fs : List Finding) → length fs ≡ length rs → All IsFilable fs
    → told_in (length rs) (bytes_of (map row rs)) (bytes_of (map finding fs)) ≡ zip (map plain rs) (map tells fs)
told_are [] fs even good = refl
told_are (r ∷ rs) [] even good = absurd (omega arith)
told_are (r ∷ rs) (f ∷ fs) even good =
    let first = row_again r (bytes_of (map row rs)) in
    let found = ap tells (finding_again f (bytes_of (map finding fs)) (All-head IsFilable f fs good)) in
    ap₂ ◌∷◌ (λ i. (first i, found i)) (told_are rs fs (omega arith) (All-tail IsFilable f fs good))

length_told : (n : ℕ) (rs fs : List ℕ) → length (told_in n rs fs) ≡ n
length_told zero rs fs = refl
length_told (suc n) rs fs = ap suc (length_told n _ _)

module _ (leaf : Leaf) (c : Contents) (holds : Holds leaf c) where
  count_is : length (row_bytes leaf) / (1 + row_size) ≡ length c.rows
  count_is = omega (arith, ap length holds.rows, rows_length c.rows)

  -- so a leaf tells what its contents tell
  pub all_are : all_told leaf ≡ told_of c
  all_are =
      ap (λ n. told_in n (row_bytes leaf) (finding_bytes leaf)) count_is
      ∙ ap₂ (told_in (length c.rows)) holds.rows holds.findings
      ∙ told_are c.rows c.findings holds.lawful.even holds.lawful.good

  few_of : length (all_told leaf) ≤ most_rows
  few_of = omega (
    arith,
    length_told (length (row_bytes leaf) / (1 + row_size)) (row_bytes leaf) (finding_bytes leaf),
    count_is,
    holds.lawful.few,
  )

-- at most as many as a table may have
pub few_told : (leaf : Leaf) → length (all_told leaf) ≤ most_rows
few_told leaf = ∥∥₁_elim leaf.held le_prop (λ h. few_of leaf h.0 h.1)

-- of two lists in pairs the pair at a rank has what stands there in each
no_pair : {X Y : Type 0} (o : Option X) → ◌≡◌ {A = Option (X × Y)} None (option_zip o None)
no_pair None = refl
no_pair (Some x) = refl

at_rank_zip : {X Y : Type 0} (rank : ℕ) (xs : List X) (ys : List Y)
    → at_rank rank (zip xs ys) ≡ option_zip (at_rank rank xs) (at_rank rank ys)
at_rank_zip zero xs ys = refl
at_rank_zip (suc zero) [] ys = refl
at_rank_zip (suc zero) (x ∷ xs) [] = refl
at_rank_zip (suc zero) (x ∷ xs) (y ∷ ys) = refl
at_rank_zip (suc (suc i)) [] ys = refl
at_rank_zip (suc (suc i)) (x ∷ xs) [] = no_pair (at_rank (suc i) xs)
at_rank_zip (suc (suc i)) (x ∷ xs) (y ∷ ys) = at_rank_zip (suc i) xs ys

-- the row at a rank and the finding there, where they are what any contents of the leaf have there
pub told_both : (leaf : Leaf) (rank : ℕ) (r : Option Row) (f : Option Finding)
    → ((c : Contents) → Holds leaf c → option_map plain r ≡ option_map plain (at_rank rank c.rows))
    → ((c : Contents) → Holds leaf c → option_map tells f ≡ option_map tells (at_rank rank c.findings))
    → option_map told (option_zip r f) ≡ at_rank rank (all_told leaf)
told_both leaf rank r f rows findings = in_parts r f ∙ ∥∥₁_elim leaf.held (is_set _ _) (λ h. of h.0 h.1)
  where
    is_set : (x y : Option (Numbers × Found)) (p q : x ≡ y) → p ≡ q
    is_set = hlevel props

    in_parts : (r : Option Row) (f : Option Finding)
        → option_map told (option_zip r f) ≡ option_zip (option_map plain r) (option_map tells f)
    in_parts None f = refl
    in_parts (Some r) None = refl
    in_parts (Some r) (Some f) = refl

    of : (c : Contents) → Holds leaf c
        → option_zip (option_map plain r) (option_map tells f) ≡ at_rank rank (all_told leaf)
    of c holds =
        ap₂ option_zip (rows c holds ∙ sym (at_rank_map plain rank c.rows))
        (findings c holds ∙ sym (at_rank_map tells rank c.findings))
        ∙ sym (at_rank_zip rank (map plain c.rows) (map tells c.findings))
        ∙ ap (at_rank rank) (sym (all_are leaf c holds))

-- what is left of a list begins with its first element
pub one_left : {X : Type 0} (n : ℕ) (xs : List X) (x : X) → Some x ≡ first_of (drop n xs)
    → drop n xs ≡ x ∷ drop (suc n) xs
one_left zero [] x some = cc
one_left zero (y ∷ xs) x some = let same : x ≡ y = cc in ap (λ z. z ∷ xs) (sym same)
one_left (suc n) [] x some = cc
one_left (suc n) (y ∷ xs) x some = one_left n xs x some
