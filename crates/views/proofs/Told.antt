-- What is told of the items that an iterator gave, place by place.
use Rattle.std.proofs.Common.{◌≡◌, ℕ, ◌+◌, List, [], ◌∷◌, ◌++◌, map, None, Option}
use Rattle.std.proofs.Common.{sym, refl, ap, ap₂, ◌∙◌, append_assoc}
use Rattle.std.proofs.lemmas.List.{map-append}
use Rattle.std.proofs.lemmas.Simd.{map-map}
use Rattle.std.specs.List.{enumerate_from}
use Rattle.std.specs.Iterator.{Yields, YieldsFirstBy}
use Rattle.std.specs.Iterator.Adapters.{enumerate_count, enumerate_source, enumerate_steps}
use Rattle.std.specs.declared.iter.Enumerate.{Enumerate}
use Rattle.std.proofs.lemmas.Iterator.{YieldsList}
use Rattle.std.proofs.lemmas.Iterator.Consumers.{YieldsList-end, YieldsList-from_enumerate, YieldsList-from_first}
use Rattle.rows.specs.declared.tasks.Numbers.{Numbers}
use Rattle.rows.specs.declared.tasks.Row.{Row}
use Rattle.rows.specs.declared.verdicts.Finding.{Finding}
use Rattle.rows.specs.Found.{Found}
use Rattle.leaves.specs.Contents.{Contents}
use Rattle.reading.specs.declared.held.RowsWithFindings.{RowsWithFindings}
use Rattle.reading.specs.Told.{told, told_of, still_told}
use Rattle.views.specs.Ranked.{told_rows}

-- what is told of a row with its finding that came at a place
abbrev pub told_item : {X : Type 0} → (ℕ → Numbers → Found → X) → ℕ × (Row × Finding) → X
told_item tell e = tell (e.0 + 1) (told e.1).0 (told e.1).1

-- cells that tell what is told of some items, with those of one item more, tell what is told of that one too
pub told_next : {A X Y : Type 0} (tell : A → X) (F : Y → X) (before : List X) (table new : List Y) (cells : Y)
    → (seen : List A) (item : A)
    → map F table ≡ before ++ map tell seen → F cells ≡ tell item → new ≡ table ++ cells ∷ []
    → map F new ≡ before ++ map tell (seen ++ item ∷ [])
told_next tell F before table new cells seen item told one grown =
    ap (map F) grown
    ∙ map-append F table (cells ∷ [])
    ∙ ap₂ (λ xs x. xs ++ x ∷ []) told one
    ∙ append_assoc before (map tell seen) (tell item ∷ [])
    ∙ ap (λ xs. before ++ xs) (sym (map-append tell seen (item ∷ [])))

-- the rank is one more than the place
ranks : {B X : Type 0} (tell : ℕ → B → X) (n : ℕ) (xs : List B)
    → map (λ e. tell (e.0 + 1) e.1) (enumerate_from n xs) ≡ map (λ e. tell e.0 e.1) (enumerate_from (n + 1) xs)
ranks tell n [] = refl
ranks tell n (x ∷ xs) = ap (λ ys. tell (n + 1) x ∷ ys) (ranks tell (n + 1) xs)

-- where nothing more comes of a list, all of it was told by rank
pub told_all : {S A B X : Type 0} {steps : S → Option (ℕ × A) → S → Type 0}
    → (tell : ℕ → B → X) (v : A → B) (all : List B) (from to last : S) (seen : List (ℕ × A)) (r : Option (ℕ × A))
    → YieldsList steps (λ e. (e.0, v e.1)) from (enumerate_from 0 all)
    → Yields steps from seen to → r ≡ None → steps to r last
    → map (λ e. tell (e.0 + 1) (v e.1)) seen ≡ map (λ e. tell e.0 e.1) (enumerate_from 1 all)
told_all tell v all from to last seen r gives yielded none ends =
    sym (map-map (λ e. tell (e.0 + 1) e.1) (λ e. (e.0, v e.1)) seen)
    ∙ ap (map (λ e. tell (e.0 + 1) e.1)) (YieldsList-end gives seen to yielded r last none ends).0
    ∙ ranks tell 0 all

-- so all rows of a leaf were told
pub leaf_told : {X : Type 0} (tell : ℕ → Numbers → Found → X) (c : Contents)
    → (from to last : Enumerate RowsWithFindings) (seen : List (ℕ × (Row × Finding))) (r : Option (ℕ × (Row × Finding)))
    → still_told (enumerate_source from) ≡ told_of c → enumerate_count from ≡ 0
    → Yields (enumerate_steps (YieldsFirstBy told still_told)) from seen to
    → r ≡ None → enumerate_steps (YieldsFirstBy told still_told) to r last
    → map (told_item tell) seen ≡ told_rows tell c
leaf_told tell c from to last seen r gives begins yielded none ends =
    let rows = YieldsList-from_first told still_told (told_of c) gives in
    told_all (λ rank e. tell rank e.0 e.1) told (told_of c) from to last seen r
    (YieldsList-from_enumerate rows begins) yielded none ends
