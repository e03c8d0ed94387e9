-- The leaf of the survey of a sheet.
use Rattle.std.proofs.Common.{◌≡◌, ℕ, ◌+◌, ltb, List, [], ◌∷◌, map, length, take, Ok, Err, Result, sym, ap, ◌∙◌, arith}
use Rattle.std.specs.Prelude.{MatchResult, IfOk, OnErr}
use Rattle.std.proofs.lemmas.List.{length-map, take-map}
use Rattle.rows.specs.declared.refusals.Refusal.TheVariants.{ShortBuffer}
use Rattle.rows.specs.declared.refusals.Fault.{Fault}
use Rattle.rows.specs.Answers.{check, checked, gives}
use Rattle.rows.specs.Lists.{written}
use Rattle.rows.specs.declared.verdicts.Finding.{Finding}
use Rattle.rows.specs.Found.{Found, tells}
use Rattle.bounds.specs.Values.{meaning_of}
use Rattle.bounds.specs.Lemmas.SuppliedLaws.{laws_of}
use Rattle.findings.proofs.Tables.{length_findings_below}
use Rattle.leaves.specs.Contents.{Contents, contents, IsLawful as IsLawfulLeaf}
use Rattle.leaves.specs.Entries.{leaf_length}
use Rattle.writing.specs.Whole.{IsFiled, file_checks}
use Rattle.writing.proofs.Leaves.{encoding_length, room_is_left}
use Rattle.writing.proofs.Written.{take_written}
use Rattle.sheets.specs.Answers.{answer_bytes, buffer_checks}
use Rattle.sheets.specs.Surveying.{table_findings}
use Rattle.sheets.specs.Tables.{OnSheet, IsLawfulSheet}
use Rattle.sheets.proofs.Filable.{all_filable}

-- the contents of the leaf of a sheet and its findings
abbrev pub leaf_of : OnSheet → List Finding → Contents
leaf_of t fs = contents t.heading t.rows fs

-- of a table that a sheet holds there are as many findings as rows
pub findings_length : (t : OnSheet) → length (table_findings t) ≡ length t.rows
findings_length t = length_findings_below (meaning_of t.heading.bound) t.heading.frame [] t.rows

-- the contents made of a lawful table and its findings are a lawful leaf's
pub leaf_lawful : (t : OnSheet) (fs : List Finding) → IsLawfulSheet t → map tells fs ≡ table_findings t
    → IsLawfulLeaf (leaf_of t fs)
leaf_lawful t fs lawful found =
    let h = t.heading in
    record {
      few = lawful.few;
      on = lawful.on;
      good = all_filable (meaning_of h.bound) h.frame (laws_of h.bound) h.framed.ticks t.rows fs lawful.on found;
      even = sym (length-map fs tells) ∙ ap length found ∙ findings_length t;
    }

-- the first places of a list that a survey filled are the findings
pub filled_first : (t : OnSheet) (old : List Found) (new : List Finding) (n : ℕ) → n ≡ length t.rows
    → map tells new ≡ written old 0 (table_findings t) → map tells (take n new) ≡ table_findings t
filled_first t old new n count filled =
    let all : n ≡ 0 + length (table_findings t) = omega (arith, findings_length t) in
    sym (take-map tells n new) ∙ ap (take n) filled ∙ ap (λ k. take k (written old 0 (table_findings t))) all
    ∙ take_written old 0 (omega arith) (table_findings t)

module _ (c : Contents) (lawful : IsLawfulLeaf c) where
  -- what filing a lawful leaf whole answers is what putting its bytes answers
  pub put_answers : (size : ℕ)
      → checked (file_checks c.heading.frame c.rows c.findings size) (leaf_length (length c.rows))
      ≡ checked (buffer_checks (gives c) size) (length (answer_bytes (gives c)))
  put_answers size =
      room_is_left c size (leaf_length (length c.rows)) lawful
      ∙ ap (λ k. checked (check (ltb size k) ShortBuffer 0 ∷ []) k) (sym (encoding_length c lawful))

  -- filing a lawful leaf whole puts its bytes
  pub puts : (old new : List ℕ) (r : Result ℕ Fault) → IfOk r (IsFiled c old new) → OnErr r (new ≡ old)
      → MatchResult r (λ _. new ≡ written old 0 (answer_bytes (gives c))) (λ _. new ≡ old)
  puts old new (Ok k) filed refused = filed.bytes
  puts old new (Err e) filed same = same
