-- A row more that is counted.
use Rattle.std.proofs.Common.{◌≡◌, ℕ, ◌+◌, ◌-◌, List, [], ◌∷◌, ◌++◌, map, length, sym, ap, ◌∙◌, ap₂, arith}
use Rattle.std.specs.List.{insert}
use Rattle.std.proofs.lemmas.List.Edits.{insert_end}
use Rattle.std.proofs.lemmas.List.{append_assoc, append-nil, length-map, map_push}
use Rattle.rows.specs.declared.frames.FrameNumbers.{FrameNumbers}
use Rattle.rows.specs.declared.tasks.Row.{Row}
use Rattle.rows.specs.declared.verdicts.Finding.{Finding}
use Rattle.rows.specs.Found.{tells}
use Rattle.bounds.specs.Meaning.{Meaning}
use Rattle.findings.specs.Findings.{row_finding}
use Rattle.findings.specs.Tables.{findings_below, findings_of}
use Rattle.findings.proofs.Tables.{length_findings_below}

module _ (m : Meaning) (h : FrameNumbers) where
  -- the findings of rows and one more
  below_more : (above rows : List Row) (r : Row)
      → findings_below m h above (rows ++ r ∷ []) ≡ findings_below m h above rows ++ row_finding m h r (above ++ rows)
      ∷ []
  below_more above [] r = ap (λ a. row_finding m h r a ∷ []) (sym (append-nil above))
  below_more above (s ∷ rows) r =
      ap (λ xs. row_finding m h s above ∷ xs)
      (below_more (above ++ s ∷ []) rows r
      ∙ ap (λ a. findings_below m h (above ++ s ∷ []) rows ++ row_finding m h r a ∷ [])
      (append_assoc above (s ∷ []) rows))

  -- stand in a list behind those of the rows
  pub found_more : (rows : List Row) (r : Row) (list : List Finding) (f : Finding)
      → map tells list ≡ findings_of m h rows → tells f ≡ row_finding m h r rows
      → map tells (list ++ f ∷ []) ≡ findings_of m h (rows ++ r ∷ [])
  found_more rows r list f before here =
      map_push tells list f ∙ ap₂ (λ xs x. xs ++ x ∷ []) before here ∙ sym (below_more [] rows r)

  -- there are as many of them as rows
  pub as_many : (rows : List Row) (list : List Finding) → map tells list ≡ findings_of m h rows
      → length list ≡ length rows
  as_many rows list are = sym (length-map list tells) ∙ ap length are ∙ length_findings_below m h [] rows

-- a row that is put in below the last of a table stands behind its rows
pub put_last : (rows : List Row) (rank : ℕ) (r : Row) → rank ≡ length rows + 1
    → insert rows (rank - 1) r ≡ rows ++ r ∷ []
put_last rows rank r last = ap (λ n. insert rows n r) (omega (arith, last)) ∙ insert_end rows r
