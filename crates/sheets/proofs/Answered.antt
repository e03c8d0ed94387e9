-- The answer to a string of bytes: that there is one, how long it is, and what a leaf that is one says.
use Rattle.std.proofs.Common.{◌≡◌, ℕ, ◌+◌, ◌≤◌, ltb, List, [], ◌∷◌, ◌++◌, map, length, Ok, Err, Result, sym, refl, ap}
use Rattle.std.proofs.Common.{◌∙◌, ap₂, subst, arith}
use Rattle.std.specs.Prelude.{IsOk}
use Rattle.std.proofs.lemmas.Bool.{le-ltb}
use Rattle.std.proofs.lemmas.Grind.{flat_map-append}
use Rattle.rows.specs.declared.refusals.Refusal.TheVariants.{ShortBuffer}
use Rattle.rows.specs.declared.refusals.Fault.{Fault}
use Rattle.rows.specs.Answers.{Answer, gives, refuses, answer}
use Rattle.rows.proofs.Checks.{passes_on}
use Rattle.bounds.specs.Values.{meaning_of}
use Rattle.bounds.specs.Lemmas.SuppliedLaws.{laws_of}
use Rattle.findings.proofs.Tables.{table_says}
use Rattle.rows.proofs.SameFinding.{same_findings}
use Rattle.leaves.specs.declared.entries.Entry.TheVariants.{Finding as finding, End as end}
use Rattle.leaves.specs.Contents.{Contents, bytes_of, IsLawful as IsLawfulLeaf}
use Rattle.leaves.specs.Entries.{entry_bytes}
use Rattle.reading.proofs.Once.{again}
use Rattle.writing.proofs.Leaves.{encoding_length}
use Rattle.sheets.specs.Answers.{Answers, AnswersOnce, answer_bytes, most_answer, IsPut, IsLeafOf}
use Rattle.sheets.specs.Surveying.{IsSurveyOf, SurveySays}
use Rattle.sheets.specs.Tables.{OnSheet, on_sheet, IsLawfulSheet, sheet_bytes, sheet_entries}
use Rattle.sheets.proofs.Leaves.{leaf_of, leaf_lawful}
use Rattle.sheets.proofs.Once.{fits_once}

-- the surveys of one table are one
same_survey : (t u : OnSheet) (c d : Contents) → t ≡ u → IsSurveyOf t c → IsSurveyOf u d → c ≡ d
same_survey t u c d is survey also =
    let v = subst (λ x. IsSurveyOf x d) (sym is) also in
    let head = survey.heading ∙ sym v.heading in
    let kept = survey.rows ∙ sym v.rows in
    let found = same_findings c.findings d.findings (survey.findings ∙ sym v.findings) in
    λ i. record { heading = head i; rows = kept i; findings = found i }

-- at most one answer answers
pub answers_once : AnswersOnce
answers_once bytes (gives c) (gives d) (t, fits, survey) (u, fit, also) =
    let same = fits_once bytes (gives t) (gives u) fits fit in
    let is : t ≡ u = cc in
    ap gives (same_survey t u c d is survey also)
answers_once bytes (gives c) (refuses n at) (t, fits, survey) refused = let same =
    fits_once bytes (gives t) (refuses n at) fits refused in cc
answers_once bytes (refuses n at) (gives c) refused (t, fits, survey) = let same =
    fits_once bytes (gives t) (refuses n at) fits refused in cc
answers_once bytes (refuses n at) (refuses m to) refused also =
    again n at m to (fits_once bytes (refuses n at) (refuses m to) refused also)

-- a survey of a lawful table is a lawful leaf
survey_lawful : (t : OnSheet) (c : Contents) → IsLawfulSheet t → IsSurveyOf t c → IsLawfulLeaf c
survey_lawful t c lawful survey =
    let is : leaf_of t c.findings ≡ c =
    (λ i. record { heading = sym survey.heading i; rows = sym survey.rows i; findings = c.findings }) in
    subst IsLawfulLeaf is (leaf_lawful t c.findings lawful survey.findings)

-- no answer is longer than the longest
pub answer_length : (bytes : List ℕ) (a : Answer Contents) → Answers bytes a → length (answer_bytes a) ≤ most_answer
answer_length bytes (gives c) (t, fits, survey) =
    let lawful = survey_lawful t c fits.0 survey in omega (arith, encoding_length c lawful, lawful.few)
answer_length bytes (refuses n at) refused = omega arith

-- with room for it an answer is given
pub put_with_room : (a : Answer Contents) (old new : List ℕ) (r : Result ℕ Fault) → length (answer_bytes a) ≤ length old
    → IsPut a old new r → IsOk r
put_with_room a old new r room put =
    by r (put.told
    ∙ passes_on (ltb (length old) (length (answer_bytes a))) ShortBuffer 0 (gives (length (answer_bytes a)))
    (le-ltb (length old) (length (answer_bytes a)) room))
  where
    by : (r : Result ℕ Fault) → answer (λ n. n) r ≡ gives (length (answer_bytes a)) → IsOk r
    by (Ok n) told = refl
    by (Err e) told = cc

-- what answers a sheet is its leaf
pub answered_leaf : (bytes : List ℕ) (c : Contents) → Answers bytes (gives c) → IsLeafOf bytes c
answered_leaf bytes c (t, fits, survey) =
    let is : on_sheet c.heading c.rows ≡ t = ap₂ on_sheet survey.heading survey.rows in
    let h = t.heading in
    record {
      accepted = (survey_lawful t c fits.0 survey, refl);
      more = bytes_of (map finding c.findings ++ end (1 + length c.rows + length c.findings) ∷ []);
      begins = flat_map-append entry_bytes (sheet_entries (on_sheet c.heading c.rows))
          (map finding c.findings ++ end (1 + length c.rows + length c.findings) ∷ [])
          ∙ ap (λ xs. xs ++ bytes_of (map finding c.findings ++ end (1 + length c.rows + length c.findings) ∷ []))
          (ap sheet_bytes is ∙ sym fits.1);
      says = subst SurveySays (sym is)
          (table_says (meaning_of h.bound) h.frame t.rows (laws_of h.bound)
          (record { frame = h.framed.ticks; on = fits.0.on }));
    }
