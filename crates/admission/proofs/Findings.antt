-- The findings of a table, part by part.
use Rattle.std.proofs.Common.{◌≡◌, ◌<◌, suc, true, List, [], ◌∷◌, ◌++◌, length, get_or, take, drop, sym, refl, ap}
use Rattle.std.proofs.Common.{◌∙◌, subst, arith}
use Rattle.std.specs.List.{AllPass}
use Rattle.std.proofs.Math.Seq.{split_at}
use Rattle.std.proofs.lemmas.List.{append_assoc, append-nil, get_or_at, length-append}
use Rattle.std.proofs.lemmas.List.Elements.{All-nil}
use Rattle.rows.specs.declared.frames.FrameNumbers.{FrameNumbers}
use Rattle.rows.specs.declared.tasks.Row.{Row}
use Rattle.bounds.specs.Meaning.{Meaning}
use Rattle.rows.specs.Found.{Found, is_met}
use Rattle.findings.specs.Findings.{row_finding}
use Rattle.findings.specs.Tables.{findings_below, findings_of}
use Rattle.findings.proofs.Tables.{length_findings_below, finding_below_at}

module _ (m : Meaning) (h : FrameNumbers) where
  -- the findings of rows one after the other are those of the first, and those of the others below them
  pub findings_append : (above xs ys : List Row)
      → findings_below m h above (xs ++ ys) ≡ findings_below m h above xs ++ findings_below m h (above ++ xs) ys
  findings_append above [] ys = ap (λ a. findings_below m h a ys) (sym (append-nil above))
  findings_append above (x ∷ xs) ys =
      let first = above ++ x ∷ [] in
      ap (λ fs. row_finding m h x above ∷ fs)
      (findings_append first xs ys
      ∙ ap (λ a. findings_below m h first xs ++ findings_below m h a ys) (append_assoc above (x ∷ []) xs))

  -- the finding of a row of a table stands at its place, and is that below the rows before it
  pub finding_there : (xs ys : List Row) (r : Row) (d : Found)
      → get_or (findings_of m h (xs ++ r ∷ ys)) (length xs) d ≡ row_finding m h r xs
  finding_there xs ys r d =
      ap (λ fs. get_or fs (length xs) d) (findings_append [] xs (r ∷ ys))
      ∙ get_or_at (findings_of m h xs) (row_finding m h r xs) (findings_below m h (xs ++ r ∷ []) ys) d (length xs)
      (length_findings_below m h [] xs)

  -- each row of a table meets, below the rows before it
  abbrev pub EachMeets : List Row → Type 0
  EachMeets rows = (xs ys : List Row) (r : Row) → rows ≡ xs ++ r ∷ ys → is_met (row_finding m h r xs) ≡ true

  -- where all findings of a table are met, each row meets
  pub each_meets : (rows : List Row) → AllPass is_met (findings_of m h rows) → EachMeets rows
  each_meets rows met xs ys r split =
      let d = row_finding m h r xs in
      let there : AllPass is_met (findings_of m h (xs ++ r ∷ ys)) =
      subst (λ rs. AllPass is_met (findings_of m h rs)) split met in
      let count : length (r ∷ ys) ≡ suc (length ys) = refl in
      ap is_met (sym (finding_there xs ys r d))
      ∙ there (length xs) d
      (omega (arith, length_findings_below m h [] (xs ++ r ∷ ys), length-append xs (r ∷ ys), count))

  -- where each row of a table meets, all its findings are met
  pub all_met : (rows : List Row) → EachMeets rows → AllPass is_met (findings_of m h rows)
  all_met [] each = All-nil (λ f. is_met f ≡ true)
  all_met (s ∷ rows) each = λ k d within.
      let place : k < length (s ∷ rows) = omega (arith, length_findings_below m h [] (s ∷ rows)) in
      ap is_met (finding_below_at m h [] (s ∷ rows) k d s place)
      ∙ each (take k (s ∷ rows)) (drop (suc k) (s ∷ rows)) (get_or (s ∷ rows) k s) (split_at (s ∷ rows) k s place)
