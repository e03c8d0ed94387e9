-- Each kind of entry, once it is written where it is to begin, is filed.
use Rattle.std.proofs.Common.{◌≡◌, ℕ, zero, suc, ◌+◌, ◌^◌, ◌<◌, ◌≤◌, true, false, List, [], ◌∷◌, ◌++◌, length}
use Rattle.std.proofs.Common.{unwrap_or, refl, ap, ◌∙◌, subst, arith}
use Rattle.rows.specs.declared.tasks.Row.{Row}
use Rattle.rows.specs.Counting.{is_on_frame}
use Rattle.rows.specs.Lists.{written}
use Rattle.rows.specs.Times.{most_rows}
use Rattle.rows.specs.declared.verdicts.Finding.{Finding}
use Rattle.rows.specs.Found.{verdict_rest}
use Rattle.leaves.specs.declared.entries.Heading.{Heading}
use Rattle.leaves.specs.declared.entries.HeadingNumbers.{HeadingNumbers}
use Rattle.leaves.specs.declared.entries.Entry.TheVariants.{Heading as heading, Row as row, Finding as finding}
use Rattle.leaves.specs.declared.entries.Entry.TheVariants.{End as end}
use Rattle.leaves.specs.Bytes.{four}
use Rattle.leaves.specs.Entries.{entry_bytes, letter_F, letter_A, letter_Z, heading_size, row_size, finding_size}
use Rattle.leaves.specs.Entries.{end_size, finding_place}
use Rattle.leaves.specs.Headings.{heading_plain}
use Rattle.leaves.specs.Judging.{is_bad_finding}
use Rattle.reading.specs.declared.phases.Phase.{Phase}
use Rattle.reading.specs.declared.phases.Phase.TheVariants.{Opening, Rows, Findings, Closed}
use Rattle.reading.specs.Grammar.{TakesFindings, after_rows, after_findings, opens, stands, finds, closes}
use Rattle.reading.specs.Phases.{place_of, rows_in, findings_in, frame_in}
use Rattle.writing.specs.Filing.{Files}
use Rattle.writing.specs.States.{phase_after, IsInFindings}
use Rattle.writing.proofs.Written.{written_on}

-- the heading, of which the frame is written first and the bound and the accuracy behind it
pub heading_filed : (h : Heading) (n : HeadingNumbers) (old between new : List ℕ) → n ≡ heading_plain h
    → 1 + heading_size ≤ length old
    → between ≡ written old 0 (letter_F ∷ four n.frame.ticks) → new ≡ written between 5 (n.bound ∷ n.accuracy ∷ [])
    → Files Opening old (heading h) (Rows h 0) new
heading_filed h n old between new are room first second =
    let behind = written_on old 0 (omega arith) (letter_F ∷ four n.frame.ticks) (n.bound ∷ n.accuracy ∷ []) in
    record {
      step = opens;
      room = room;
      bytes = second ∙ ap (λ xs. written xs 5 (n.bound ∷ n.accuracy ∷ [])) first ∙ behind
          ∙ ap (λ m. written old 0 (letter_F ∷ (four m.frame.ticks ++ m.bound ∷ m.accuracy ∷ []))) are;
    }

-- a row
pub row_filed : (h : Heading) (n : ℕ) (p : Phase) → Rows h n ≡ p → (r : Row) (old new : List ℕ) (place : ℕ)
    → rows_in p < most_rows → is_on_frame (frame_in p).ticks r ≡ true → place_of p + 1 + row_size ≤ length old
    → place ≡ place_of p → new ≡ written old place (entry_bytes (row r))
    → Files p old (row r) (Rows h (n + 1)) new
row_filed h n p same r old new place few on room at bytes =
    subst (λ p. rows_in p < most_rows → is_on_frame (frame_in p).ticks r ≡ true → place_of p + 1 + row_size ≤ length old
    → place ≡ place_of p → Files p old (row r) (Rows h (n + 1)) new) same
    (λ few on room at.
    record {
      step = stands few on;
      room = omega (arith, room);
      bytes =
          bytes ∙ ap (λ i. written old i (entry_bytes (row r))) at;
    })
    few on room at

-- what a phase after some rows and findings tells
module _ (h : Heading) (n : ℕ) where
  takes_after : (m : ℕ) → TakesFindings (phase_after h n m) h n m
  takes_after zero = after_rows
  takes_after (suc m) = after_findings

  place_after : (m : ℕ) → place_of (phase_after h n m) ≡ finding_place n m
  place_after zero = omega arith
  place_after (suc m) = refl

  rows_after : (m : ℕ) → rows_in (phase_after h n m) ≡ n
  rows_after zero = refl
  rows_after (suc m) = refl

  findings_after : (m : ℕ) → findings_in (phase_after h n m) ≡ m
  findings_after zero = refl
  findings_after (suc m) = refl

  one_more : (m : ℕ) → Findings h n (m + 1) ≡ phase_after h n (m + 1)
  one_more m = let more : suc m ≡ m + 1 = omega arith in subst (λ k. Findings h n k ≡ phase_after h n k) more refl

  pub is_in_findings : (m : ℕ) → n ≤ most_rows → m ≤ n → IsInFindings (phase_after h n m)
  is_in_findings m few orderly = record {
    heading = h;
    rows = n;
    findings = m;
    takes = takes_after m;
    sound = record { few = omega (arith, rows_after m); orderly = omega (arith, rows_after m, findings_after m) };
  }

  -- a finding
  pub finding_filed : (m : ℕ) (p : Phase) → phase_after h n m ≡ p
      → (f : Finding) (rest : ℕ) (old new : List ℕ) (place : ℕ)
      → findings_in p < rows_in p → is_bad_finding f ≡ false → f.points < 2 ^ 32
      → place_of p + 1 + finding_size ≤ length old → rest ≡ unwrap_or (verdict_rest f.verdict) 0
      → place ≡ place_of p → new ≡ written old place (letter_A ∷ (four rest ++ four f.points))
      → Files p old (finding f) (phase_after h n (m + 1)) new
  finding_filed m p same f rest old new place fewer good fits room told at bytes =
      subst (λ p. findings_in p < rows_in p → place_of p + 1 + finding_size ≤ length old → place ≡ place_of p
      → Files p old (finding f) (phase_after h n (m + 1)) new) same
      (λ fewer room at.
      subst (λ q. Files (phase_after h n m) old (finding f) q new) (one_more m)
      (record {
        step = finds (takes_after m) (omega (arith, fewer, rows_after m, findings_after m))
            (record { good = good; fits = fits });
        room = omega (arith, room, place_after m);
        bytes = bytes ∙ ap (λ i. written old i (letter_A ∷ (four rest ++ four f.points))) at
            ∙ ap (λ t. written old (place_of (phase_after h n m)) (letter_A ∷ (four t ++ four f.points))) told;
      }))
      fewer room at

  -- the end
  pub end_filed : (m : ℕ) (p : Phase) → phase_after h n m ≡ p → (k : ℕ) (old new : List ℕ) (place : ℕ)
      → m ≤ n → rows_in p ≤ findings_in p → place_of p + 1 + end_size ≤ length old → k ≡ 1 + n + m → place ≡ place_of p
      → new ≡ written old place (letter_Z ∷ four k)
      → Files p old (end (1 + rows_in p + findings_in p)) (Closed h n) new
  end_filed m p same k old new place orderly even room number at bytes =
      subst (λ p. rows_in p ≤ findings_in p → place_of p + 1 + end_size ≤ length old → place ≡ place_of p
      → Files p old (end (1 + rows_in p + findings_in p)) (Closed h n) new) same
      (λ even room at.
      let count : k ≡ 1 + rows_in (phase_after h n m) + findings_in (phase_after h n m) =
      omega (arith, number, rows_after m, findings_after m) in
      let all : m ≡ n = omega (arith, even, rows_after m, findings_after m) in
      record {
        step = closes (takes_after m) all (omega (arith, rows_after m, findings_after m));
        room = omega (arith, room, place_after m);
        bytes = bytes ∙ ap (λ i. written old i (letter_Z ∷ four k)) at
            ∙ ap (λ j. written old (place_of (phase_after h n m)) (letter_Z ∷ four j)) count;
      })
      even room at
