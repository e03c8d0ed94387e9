-- The findings of a table with a row put in or taken out.
use Rattle.std.proofs.Common.{◌≡◌, ℕ, zero, suc, ◌+◌, ◌<◌, ◌≤◌, List, [], ◌∷◌, ◌++◌, length, map, take, drop, refl}
use Rattle.std.proofs.Common.{sym, ap, ◌∙◌, arith}
use Rattle.std.specs.List.{insert, remove}
use Rattle.std.proofs.lemmas.List.{append-nil, length-drop, length-map, length-take-le, nil_from_length}
use Rattle.std.proofs.lemmas.List.{take-append-drop, take-map, take_at}
use Rattle.rows.specs.declared.frames.FrameNumbers.{FrameNumbers}
use Rattle.rows.specs.declared.tasks.Row.{Row}
use Rattle.rows.specs.declared.verdicts.Finding.{Finding}
use Rattle.rows.specs.Found.{tells}
use Rattle.rows.specs.Lists.{written}
use Rattle.bounds.specs.Meaning.{Meaning}
use Rattle.findings.specs.Findings.{row_finding}
use Rattle.findings.specs.Tables.{findings_below, findings_of}
use Rattle.findings.proofs.Tables.{length_findings_below}

-- a list that is written over from a place on with what another has there, and has the same before it, is the other
pub recounted : {X : Type 0} (old all new : List X) (from : ℕ) → from ≤ length all → length old ≡ length all
    → take from old ≡ take from all → new ≡ written old from (drop from all) → new ≡ all
recounted old all new from within size same put =
    let none : drop (from + length (drop from all)) old ≡ [] =
    nil_from_length (drop (from + length (drop from all)) old)
    (omega (arith, length-drop (from + length (drop from all)) old, length-drop from all)) in
    put ∙ ap (λ xs. take from old ++ (drop from all ++ xs)) none
    ∙ ap (λ xs. take from old ++ xs) (append-nil (drop from all))
    ∙ ap (λ xs. xs ++ drop from all) same ∙ take-append-drop from all

module _ (m : Meaning) (h : FrameNumbers) where
  -- the first findings are those of the first rows
  pub front_findings : (k : ℕ) (above rows : List Row)
      → take k (findings_below m h above rows) ≡ findings_below m h above (take k rows)
  front_findings zero above rows = refl
  front_findings (suc k) above [] = refl
  front_findings (suc k) above (r ∷ rows) =
      ap (λ fs. row_finding m h r above ∷ fs) (front_findings k (above ++ r ∷ []) rows)

  -- rows that begin alike have the same first findings
  same_front : (xs ys : List Row) (k : ℕ) → take k xs ≡ take k ys
      → take k (findings_of m h xs) ≡ take k (findings_of m h ys)
  same_front xs ys k same = front_findings k [] xs ∙ ap (findings_of m h) same ∙ sym (front_findings k [] ys)

  -- what is kept of rows is as long as they are
  pub many_kept : (rows : List Row) (kept : List Finding) → map tells kept ≡ findings_of m h rows
      → length kept ≡ length rows
  many_kept rows kept counted = sym (length-map kept tells) ∙ ap length counted ∙ length_findings_below m h [] rows

  -- with a row put in, the findings before it are known where those of the other rows are
  pub known_with : (rows : List Row) (k : ℕ) (r : Row) (kept list : List Finding) → k ≤ length rows
      → map tells kept ≡ findings_of m h rows → take k list ≡ take k kept
      → take k (map tells list) ≡ take k (findings_of m h (insert rows k r))
  known_with rows k r kept list within counted same =
      take-map tells k list ∙ ap (map tells) same ∙ sym (take-map tells k kept) ∙ ap (take k) counted
      ∙ same_front rows (insert rows k r) k
      (sym (take_at (take k rows) (r ∷ drop k rows) k (length-take-le k rows within)))

  -- and so it is with a row taken out
  pub known_without : (rows : List Row) (k : ℕ) (kept list : List Finding) → k < length rows
      → map tells kept ≡ findings_of m h rows → list ≡ remove kept k
      → take k (map tells list) ≡ take k (findings_of m h (remove rows k))
  known_without rows k kept list within counted out =
      let many = many_kept rows kept counted in
      take-map tells k list
      ∙ ap (map tells)
      (ap (take k) out ∙ take_at (take k kept) (drop (suc k) kept) k (length-take-le k kept (omega (arith, many))))
      ∙ sym (take-map tells k kept) ∙ ap (take k) counted
      ∙ same_front rows (remove rows k) k
      (sym (take_at (take k rows) (drop (suc k) rows) k (length-take-le k rows (omega arith))))
