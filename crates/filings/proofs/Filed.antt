-- A frame in ticks, and the leaf of a count.
use Rattle.std.proofs.Common.{◌≡◌, ℕ, ◌≤◌, true, List, Result, map, length, sym, ap, ap₂, ◌∙◌, subst}
use Rattle.std.specs.Prelude.{IfOk, OnErr}
use Rattle.std.proofs.lemmas.Bool.{and_parts, leb-true}
use Rattle.rows.specs.declared.refusals.Fault.{Fault}
use Rattle.rows.specs.declared.tasks.Row.{Row}
use Rattle.rows.specs.declared.verdicts.Finding.{Finding}
use Rattle.rows.specs.Answers.{answer, checked, gives}
use Rattle.rows.specs.Books.{IsJudged, book}
use Rattle.rows.specs.Found.{tells}
use Rattle.rows.specs.Times.{is_frame}
use Rattle.bounds.specs.Families.{family_meaning, supplied_plain}
use Rattle.bounds.proofs.Numbered.{means_plain}
use Rattle.bounds.specs.Values.{meaning_of}
use Rattle.findings.specs.Tables.{findings_of}
use Rattle.leaves.specs.declared.entries.Heading.{Heading}
use Rattle.leaves.specs.Contents.{Contents, contents}
use Rattle.leaves.specs.Entries.{leaf_length}
use Rattle.writing.specs.Whole.{file_checks, IsFiled}
use Rattle.sheets.specs.Answers.{IsPut}
use Rattle.sheets.specs.Tables.{on_sheet}
use Rattle.sheets.proofs.Leaves.{leaf_lawful, put_answers, puts}
use Rattle.filings.specs.Filings.{Filed, filed_findings, heading_numbers, IsLeafOfCount}

-- a frame has a length from 1 tick on
pub frame_low : (h : ℕ) → is_frame h ≡ true → 1 ≤ h
frame_low h frame = leb-true 1 h (and_parts _ _ frame).0

-- a leaf that is filed with the rows of a counted table and their findings is the leaf of the count
pub filed_so : (h : Heading) (f : Filed) (rows : List Row) (fs : List Finding) (old new : List ℕ) (r : Result ℕ Fault)
    → h.frame ≡ f.frame → supplied_plain h.bound ≡ f.bound → rows ≡ f.rows → IsJudged (book f.frame f.rows)
    → map tells fs ≡ filed_findings f
    → answer (λ n. n) r ≡ checked (file_checks h.frame rows fs (length old)) (leaf_length (length rows))
    → IfOk r (λ n. IsFiled (contents h rows fs) old new n) → OnErr r (new ≡ old)
    → (c : Contents) × IsLeafOfCount f c × IsPut (gives c) old new r
filed_so h f rows fs old new r frame bound are judged found told filed refused =
    let c = contents h rows fs in
    let same : book h.frame rows ≡ book f.frame f.rows = ap₂ book frame are in
    let meant : family_meaning f.bound.0 f.bound.1 ≡ meaning_of h.bound =
    sym (means_plain h.bound ∙ ap (λ b. family_meaning b.0 b.1) bound) in
    let here : map tells fs ≡ findings_of (meaning_of h.bound) h.frame rows =
    found ∙ ap₂ (λ m b. findings_of m b.frame b.rows) meant (sym same) in
    let lawful = leaf_lawful (on_sheet h rows) fs (subst IsJudged (sym same) judged) here in (
      c,
      record {
        lawful = lawful;
        heading = ap₂ heading_numbers frame bound;
        rows = are;
        findings = found;
      },
      record {
        told = told ∙ put_answers c lawful (length old);
        bytes = puts c lawful old new r filed refused;
      },
    )
