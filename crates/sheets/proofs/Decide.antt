-- The first bytes decide: what follows them changes no answer.
use Rattle.std.proofs.Common.{◌≡◌, ℕ, ◌+◌, ◌<◌, ◌≤◌, ◌⊎◌, inl, inr, Bool, true, false, eqb, leb, ◌||◌, List, [], ◌∷◌}
use Rattle.std.proofs.Common.{◌++◌, map, length, take, drop, sym, refl, ap, ◌∙◌, subst, ⊎_elim, Some, None}
use Rattle.std.proofs.Common.{if◌then◌else◌, arith}
use Rattle.std.proofs.lemmas.Bool.{cases_lt, eqb-true, le-leb}
use Rattle.std.proofs.lemmas.List.{append_assoc, get_or_append_left, length-append, length-take-le, take-append-drop}
use Rattle.std.proofs.lemmas.List.{take_all}
use Rattle.rows.specs.declared.refusals.Refusal.{Refusal}
use Rattle.rows.specs.declared.refusals.Refusal.TheVariants.{FullTable}
use Rattle.rows.specs.Answers.{Answer, gives, refuses, refuses_at, first_refusal}
use Rattle.rows.specs.declared.frames.FrameNumbers.{FrameNumbers}
use Rattle.rows.specs.Frames.{frame_of}
use Rattle.rows.specs.Judging.{flaw_checks, frame_flaws}
use Rattle.rows.specs.Times.{most_rows}
use Rattle.leaves.specs.declared.entries.Heading.{Heading}
use Rattle.leaves.specs.Bytes.{number_at}
use Rattle.leaves.specs.declared.entries.Entry.TheVariants.{Heading as heading, Row as row}
use Rattle.leaves.specs.Contents.{Contents, bytes_of}
use Rattle.leaves.specs.Entries.{entry_bytes, letter_F, letter_R, letter_A, letter_Z, heading_size, row_size, row_place}
use Rattle.leaves.specs.Fields.{heading_fields, row_fields}
use Rattle.leaves.specs.Headings.{heading_checks}
use Rattle.reading.proofs.Steps.{uncut}
use Rattle.reading.specs.declared.phases.Phase.TheVariants.{Opening, Rows}
use Rattle.reading.specs.Checks.{next_checks, heading_entry_checks, row_entry_checks}
use Rattle.reading.proofs.Ranks.{rows_length}
use Rattle.sheets.specs.Answers.{Answers, deciding, FirstDecide}
use Rattle.sheets.specs.Reading.{sheet_row_checks, sheet_phase_after, IsSheetRefusedAt, before_heading, in_rows}
use Rattle.sheets.specs.Tables.{OnSheet, sheet_bytes}

module _ (body more : List ℕ) where
  -- a number is the same with more bytes behind it
  number_stays : (i : ℕ) → i + 4 ≤ length body → number_at i (body ++ more) ≡ number_at i body
  number_stays i within =
      let a = get_or_append_left body more 0 i (omega arith) in
      let b = get_or_append_left body more 0 (i + 1) (omega arith) in
      let c = get_or_append_left body more 0 (i + 2) (omega arith) in
      let d = get_or_append_left body more 0 (i + 3) (omega arith) in
      rw (a, b, c, d) refl

  -- the fields of a body that is whole are the same with more bytes behind it
  heading_stays : heading_size ≤ length body → heading_fields (body ++ more) ≡ heading_fields body
  heading_stays whole =
      let frame = number_stays 0 (omega arith) in
      let bound = get_or_append_left body more 0 4 (omega arith) in
      let accuracy = get_or_append_left body more 0 5 (omega arith) in
      λ i. record { frame = frame_of (frame i); bound = bound i; accuracy = accuracy i }

  row_stays : row_size ≤ length body → row_fields (body ++ more) ≡ row_fields body
  row_stays whole =
      let work = number_stays 0 (omega arith) in
      let deadline = number_stays 4 (omega arith) in
      let period = number_stays 8 (omega arith) in
      let jitter = number_stays 12 (omega arith) in
      λ i. record { work = work i; deadline = deadline i; period = period i; jitter = jitter i }

  -- what is checked of it is the same too
  heading_checks_stay : (at : ℕ) → heading_size ≤ length body
      → first_refusal (heading_entry_checks at (body ++ more)) ≡ first_refusal (heading_entry_checks at body)
  heading_checks_stay at whole =
      uncut heading_size at (body ++ more) _ (omega (arith, length-append body more))
      ∙ ap (λ n. first_refusal (heading_checks n at)) (heading_stays whole)
      ∙ sym (uncut heading_size at body _ whole)

  row_checks_stay : (h : FrameNumbers) (n at : ℕ) → row_size ≤ length body
      → first_refusal (row_entry_checks h n at (body ++ more)) ≡ first_refusal (row_entry_checks h n at body)
  row_checks_stay h n at whole =
      ap (refuses_at FullTable (if leb most_rows n then Some at else None))
      (uncut row_size at (body ++ more) _ (omega (arith, length-append body more))
      ∙ ap (λ r. first_refusal (flaw_checks (frame_flaws h) r at)) (row_stays whole)
      ∙ sym (uncut row_size at body _ whole))

-- before the heading, what follows the first bytes changes nothing
opening_stays : (k : ℕ) (body more : List ℕ) → heading_size ≤ length body
    → first_refusal (next_checks Opening 0 (k ∷ (body ++ more))) ≡ first_refusal (next_checks Opening 0 (k ∷ body))
opening_stays k body more whole = at (eqb k letter_F) refl
  where
    at : (b : Bool) → eqb k letter_F ≡ b
        → first_refusal (next_checks Opening 0 (k ∷ (body ++ more))) ≡ first_refusal (next_checks Opening 0 (k ∷ body))
    at true is = let heading = eqb-true k letter_F is in rw heading (heading_checks_stay body more 0 whole)
    at false other = rw other refl

-- in the rows, what follows the first bytes changes nothing where a row is whole or has no room
rows_stay : (h : Heading) (n k : ℕ) (body more : List ℕ) → most_rows ≤ n ⊎ row_size ≤ length body
    → first_refusal (sheet_row_checks (Rows h n) (k ∷ (body ++ more)))
    ≡ first_refusal (sheet_row_checks (Rows h n) (k ∷ body))
rows_stay h n k body more room = at (eqb k letter_R) refl
  where
    at : (b : Bool) → eqb k letter_R ≡ b
        → first_refusal (sheet_row_checks (Rows h n) (k ∷ (body ++ more)))
        ≡ first_refusal (sheet_row_checks (Rows h n) (k ∷ body))
    at true is =
        let row = eqb-true k letter_R is in
        ⊎_elim (λ (full : most_rows ≤ n). let refused = le-leb most_rows n full in rw (row, refused) refl)
        (λ (whole : row_size ≤ length body). rw row (row_checks_stay body more h.frame n (row_place n) whole))
        room
    at false other = other_stays (eqb k letter_A || eqb k letter_Z) refl
      where
        other_stays : (b : Bool) → (eqb k letter_A || eqb k letter_Z) ≡ b
            → first_refusal (sheet_row_checks (Rows h n) (k ∷ (body ++ more)))
            ≡ first_refusal (sheet_row_checks (Rows h n) (k ∷ body))
        other_stays true is = rw is refl
        other_stays false is = rw (is, other) refl

-- the sheet of a table is as long as its number of rows says
sheet_length : (t : OnSheet) → length (sheet_bytes t) ≡ row_place (length t.rows)
sheet_length t =
    omega (arith, length-append (entry_bytes (heading t.heading)) (bytes_of (map row t.rows)), rows_length t.rows)

-- a refusal of so many bytes as decide is that of more bytes
refusal_stays : (front more : List ℕ) (number : Refusal) (at : ℕ) → length front ≡ deciding
    → IsSheetRefusedAt front number at → IsSheetRefusedAt (front ++ more) number at
refusal_stays [] more number at size refused = absurd (omega arith)
refusal_stays (k ∷ body) more number at size (before_heading refused) =
    before_heading (opening_stays k body more (omega arith) ∙ refused)
refusal_stays (k ∷ body) more number at size (in_rows t left lawful split refused) =
    in_rows t (left ++ more) lawful (ap (λ xs. xs ++ more) split ∙ append_assoc (sheet_bytes t) left more)
    (by left counted refused)
  where
    counted : row_place (length t.rows) + length left ≡ deciding
    counted = omega (arith, sheet_length t, ap length split, length-append (sheet_bytes t) left)

    by : (left : List ℕ) → row_place (length t.rows) + length left ≡ deciding
        → first_refusal (sheet_row_checks (sheet_phase_after t) left) ≡ refuses number at
        → first_refusal (sheet_row_checks (sheet_phase_after t) (left ++ more)) ≡ refuses number at
    by [] count refused = absurd (omega (arith, lawful.few))
    by (j ∷ rest) count refused =
        rows_stay t.heading (length t.rows) j rest more
        (⊎_elim (λ (few : length t.rows < most_rows). inr (omega arith))
        (λ (full : most_rows ≤ length t.rows). inl full) (cases_lt (length t.rows) most_rows)) ∙ refused

-- what answers the first bytes answers all
pub first_decide : FirstDecide
first_decide bytes a answers = ⊎_elim more_follow none_follow (cases_lt deciding (length bytes))
  where
    none_follow : length bytes ≤ deciding → Answers bytes a
    none_follow short = subst (λ xs. Answers xs a) (take_all deciding bytes short) answers

    more_follow : deciding < length bytes → Answers bytes a
    more_follow long = subst (λ xs. Answers xs a) (take-append-drop deciding bytes) (by a answers)
      where
        size : length (take deciding bytes) ≡ deciding
        size = length-take-le deciding bytes (omega arith)

        by : (a : Answer Contents) → Answers (take deciding bytes) a
            → Answers (take deciding bytes ++ drop deciding bytes) a
        by (gives c) (t, fits, survey) = absurd (omega (arith, size, ap length fits.1, sheet_length t, fits.0.few))
        by (refuses number at) refused =
            refusal_stays (take deciding bytes) (drop deciding bytes) number at size refused
