-- Rows of two leaves that are the same up to a rank.
use Rattle.std.proofs.Common.{◌≡◌, ℕ, ◌+◌, List, [], ◌∷◌, ◌++◌, map, length, Some, None, Option}
use Rattle.std.proofs.Common.{refl, sym, ap, ap₂, ◌∙◌, arith}
use Rattle.std.proofs.Math.Logic.{◌≢◌}
use Rattle.std.proofs.lemmas.List.{length-map, map-append}
use Rattle.std.proofs.lemmas.Simd.{map-map}
use Rattle.std.specs.List.{enumerate_from, zip}
use Rattle.std.specs.Iterator.{Yields}
use Rattle.std.proofs.iter.Next.{Yields-more}
use Rattle.std.proofs.iter.Yields.{gives_left}
use Rattle.std.proofs.lemmas.Iterator.{YieldsList}
use Rattle.std.proofs.lemmas.Iterator.Consumers.{YieldsList-end}
use Rattle.rows.specs.declared.tasks.Numbers.{Numbers}
use Rattle.rows.specs.Found.{Found, tells}
use Rattle.rows.specs.Judging.{plain}
use Rattle.leaves.specs.Contents.{Contents, IsLawful}
use Rattle.reading.specs.Told.{told_of}
use Rattle.views.specs.Differences.{IsFirstParted}
use Rattle.views.proofs.ComparedRows.{Both, BothGive, One, told_both}

-- the numbers of both rows that came at a place
abbrev pub one_row : ℕ × (One × One) → Numbers
one_row e = plain e.1.0.0

abbrev pub other_row : ℕ × (One × One) → Numbers
other_row e = plain e.1.1.0

-- rows that are the same, with one more that is the same
pub same_more : {A X : Type 0} (f g : A → X) (seen : List A) (item : A)
    → map f seen ≡ map g seen → f item ≡ g item → map f (seen ++ item ∷ []) ≡ map g (seen ++ item ∷ [])
same_more f g seen item same one =
    map-append f seen (item ∷ [])
    ∙ ap₂ (λ xs x. xs ++ x ∷ []) same one
    ∙ sym (map-append g seen (item ∷ []))

-- among rows and findings in pairs stand the rows of both
rows_are : (n : ℕ) (rs : List Numbers) (fs : List Found) (ss : List Numbers) (gs : List Found)
    → length fs ≡ length rs → length ss ≡ length rs → length gs ≡ length ss
    → (map (λ e. e.1.0.0) (enumerate_from n (zip (zip rs fs) (zip ss gs))) ≡ rs)
    × (map (λ e. e.1.1.0) (enumerate_from n (zip (zip rs fs) (zip ss gs))) ≡ ss)
rows_are n [] fs [] gs one even other = (refl, refl)
rows_are n [] fs (s ∷ ss) gs one even other = absurd (omega (arith, even))
rows_are n (r ∷ rs) [] ss gs one even other = absurd (omega (arith, one))
rows_are n (r ∷ rs) (f ∷ fs) [] gs one even other = absurd (omega (arith, even))
rows_are n (r ∷ rs) (f ∷ fs) (s ∷ ss) [] one even other = absurd (omega (arith, other))
rows_are n (r ∷ rs) (f ∷ fs) (s ∷ ss) (g ∷ gs) one even other =
    let rest = rows_are (n + 1) rs fs ss gs (omega (arith, one)) (omega (arith, even)) (omega (arith, other)) in
    (ap (λ xs. r ∷ xs) rest.0, ap (λ xs. s ∷ xs) rest.1)

-- what is read of items before one, of that one and of those behind it
split_map : {A B X : Type 0} (f : B → X) (v : A → B) (seen : List A) (item : A) (more : List B)
    → map f (map v (seen ++ item ∷ []) ++ more) ≡ map (λ a. f (v a)) seen ++ f (v item) ∷ map f more
split_map f v [] item more = refl
split_map f v (a ∷ seen) item more = ap (λ xs. f (v a) ∷ xs) (split_map f v seen item more)

-- the place of an item is the number of those before it
placed : {A B : Type 0} (n : ℕ) (all : List B) (v : A → ℕ × B) (seen : List A) (item : A) (more : List (ℕ × B))
    → enumerate_from n all ≡ map v (seen ++ item ∷ []) ++ more → (v item).0 ≡ n + length seen
placed n [] v [] item more is = cc
placed n (x ∷ all) v [] item more is =
    let same : v item ≡ (n, x) = cc in
    let at : (v item).0 ≡ n = ap (λ p. p.0) same in
    omega (arith, at)
placed n [] v (a ∷ seen) item more is = cc
placed n (x ∷ all) v (a ∷ seen) item more is =
    let rest : enumerate_from (n + 1) all ≡ map v (seen ++ item ∷ []) ++ more = cc in
    let at = placed (n + 1) all v seen item more rest in
    omega (arith, at)

module _ (c d : Contents) (one : IsLawful c) (other : IsLawful d) (even : length c.rows ≡ length d.rows) where
  abbrev pub both : List (ℕ × ((Numbers × Found) × (Numbers × Found)))
  both = enumerate_from 0 (zip (told_of c) (told_of d))

  rows_told : (map (λ e. e.1.0.0) both ≡ map plain c.rows) × (map (λ e. e.1.1.0) both ≡ map plain d.rows)
  rows_told =
      let rs = length-map c.rows plain in
      let fs = length-map c.findings tells in
      let ss = length-map d.rows plain in
      let gs = length-map d.findings tells in
      rows_are 0 (map plain c.rows) (map tells c.findings) (map plain d.rows) (map tells d.findings)
      (omega (arith, rs, fs, one.even)) (omega (arith, rs, ss, even)) (omega (arith, ss, gs, other.even))

  module _ (from to last : Both) (seen : List (ℕ × (One × One))) (gives : YieldsList BothGive told_both from both)
      (yielded : Yields BothGive from seen to) (same : map one_row seen ≡ map other_row seen) where
    -- where all rows that came were the same and nothing more comes, the tables have the same rows
    pub all_same : (r : Option (ℕ × (One × One))) → r ≡ None → BothGive to r last → map plain c.rows ≡ map plain d.rows
    all_same r none ends =
        let all = (YieldsList-end gives seen to yielded r last none ends).0 in
        sym rows_told.0
        ∙ ap (map (λ e. e.1.0.0)) (sym all)
        ∙ map-map (λ e. e.1.0.0) told_both seen
        ∙ same
        ∙ sym (map-map (λ e. e.1.1.0) told_both seen)
        ∙ ap (map (λ e. e.1.1.0)) all
        ∙ rows_told.1

    -- where two come next that are not the same, the tables part there
    pub parted_at : (item : ℕ × (One × One)) (r s : Numbers) → BothGive to (Some item) last
        → r ≡ one_row item → s ≡ other_row item → r ≢ s → IsFirstParted (item.0 + 1) r s c d
    parted_at item r s next one_is other_is parted =
        let here = Yields-more BothGive from seen to item last yielded next in
        let left = gives_left BothGive told_both (seen ++ item ∷ []) both from last gives.runs here in
        let more = left.0 in
        let place = placed 0 (zip (told_of c) (told_of d)) told_both seen item more left.1 in
        record {
          before = map one_row seen;
          after_one = map (λ e. e.1.0.0) more;
          after_other = map (λ e. e.1.1.0) more;
          ranked = omega (arith, place, length-map seen one_row);
          one =
              sym rows_told.0
              ∙ ap (map (λ e. e.1.0.0)) left.1
              ∙ split_map (λ e. e.1.0.0) told_both seen item more
              ∙ ap (λ n. map one_row seen ++ n ∷ map (λ e. e.1.0.0) more) (sym one_is);
          other =
              sym rows_told.1
              ∙ ap (map (λ e. e.1.1.0)) left.1
              ∙ split_map (λ e. e.1.1.0) told_both seen item more
              ∙ ap₂ (λ xs n. xs ++ n ∷ map (λ e. e.1.1.0) more) (sym same) (sym other_is);
          parted = parted;
        }
