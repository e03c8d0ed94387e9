-- Entries that pass their checks lead on.
use Rattle.std.proofs.Common.{◌≡◌, ℕ, ◌+◌, ◌-◌, ◌^◌, ◌<◌, List, ◌∷◌, ◌++◌, length, take, drop, sym, ap, ◌∙◌, subst}
use Rattle.std.proofs.lemmas.List.{take_rest}
use Rattle.rows.specs.declared.refusals.Refusal.TheVariants.{BadFinding}
use Rattle.rows.specs.declared.tasks.Numbers.{Numbers}
use Rattle.rows.specs.declared.tasks.Row.{Row}
use Rattle.rows.specs.Answers.{gives, checked}
use Rattle.rows.specs.Judging.{plain, frame_flaws, flaw_checks}
use Rattle.rows.specs.Times.{most_rows}
use Rattle.rows.proofs.Checks.{first_passes, given_is}
use Rattle.rows.specs.declared.verdicts.Finding.{Finding}
use Rattle.rows.specs.Found.{tells}
use Rattle.leaves.specs.declared.entries.Heading.{Heading}
use Rattle.leaves.specs.declared.entries.HeadingNumbers.{HeadingNumbers}
use Rattle.leaves.specs.declared.entries.Entry.{Entry}
use Rattle.leaves.specs.declared.entries.Entry.TheVariants.{Heading as heading, Row as row, Finding as finding}
use Rattle.leaves.specs.declared.entries.Entry.TheVariants.{End as end}
use Rattle.leaves.specs.Bytes.{four}
use Rattle.leaves.specs.Entries.{heading_body, row_body, finding_body, letter_F, letter_R, letter_A, letter_Z}
use Rattle.leaves.specs.Headings.{heading_plain, heading_checks}
use Rattle.leaves.specs.Judging.{is_bad_finding, finding_checks}
use Rattle.leaves.proofs.Filing.{judged_on}
use Rattle.reading.specs.declared.phases.Phase.{Phase}
use Rattle.reading.specs.declared.phases.Phase.TheVariants.{Opening, Rows, Findings, Closed}
use Rattle.reading.specs.Grammar.{TakesFindings, opens, stands, finds, closes}
use Rattle.reading.specs.Stepping.{Reading, TakesEntry, reading}

-- what is taken in a phase from some bytes is taken by a reader that is in that phase and has those bytes left
pub seen_there : (s : Reading) (p : Phase) (left : List ℕ) (q : Phase) (bytes : List ℕ) (e : Entry) (new : Reading)
    → reading p left ≡ s → p ≡ q → left ≡ bytes → TakesEntry (reading q bytes) e new → TakesEntry s e new
seen_there s p left q bytes e new is phase begins taken =
    subst (λ r. TakesEntry r e new) (ap (reading q) (sym begins) ∙ ap (λ r. reading r left) (sym phase) ∙ is) taken

module _ (body : List ℕ) (size : ℕ) where
  -- the bytes that follow a body of some size
  abbrev left : List ℕ
  left = take (length body - size) (drop size body)

  -- what is a body and the bytes after it is a body and the bytes left
  parted : (front : List ℕ) → body ≡ front ++ drop size body → body ≡ front ++ left
  parted front same = same ∙ ap (λ xs. front ++ xs) (sym (take_rest body size))

  -- a heading
  pub heading_taken : (h : Heading) (n : HeadingNumbers) (at : ℕ) → body ≡ heading_body n ++ drop size body
      → gives (heading_plain h) ≡ checked (heading_checks n at) n
      → TakesEntry (reading Opening (letter_F ∷ body)) (heading h) (reading (Rows h 0) left)
  heading_taken h n at same given = record {
    step = opens;
    split = ap (λ xs. letter_F ∷ xs)
        (parted (heading_body n) same
        ∙ ap (λ m. heading_body m ++ left) (sym (given_is (heading_checks n at) (heading_plain h) n given)));
  }

  -- a row, where there is room for one
  pub row_taken : (h : Heading) (r : Row) (n : Numbers) (rows at : ℕ) → rows < most_rows
      → body ≡ row_body n ++ drop size body → gives (plain r) ≡ checked (flaw_checks (frame_flaws h.frame) n at) n
      → TakesEntry (reading (Rows h rows) (letter_R ∷ body)) (row r) (reading (Rows h (rows + 1)) left)
  row_taken h r n rows at room same given = record {
    step = stands room (judged_on h.frame at r n given);
    split = ap (λ xs. letter_R ∷ xs)
        (parted (row_body n) same
        ∙ ap (λ m. row_body m ++ left) (sym (given_is (flaw_checks (frame_flaws h.frame) n at) (plain r) n given)));
  }

  -- a finding, where one is missing
  pub finding_taken : (h : Heading) (f : Finding) (rows findings at : ℕ) → findings < rows → f.points < 2 ^ 32
      → body ≡ finding_body (tells f) ++ drop size body → gives tt ≡ checked {A = Unit {0}} (finding_checks f at) tt
      → (p : Phase) → TakesFindings p h rows findings
      → TakesEntry (reading p (letter_A ∷ body)) (finding f) (reading (Findings h rows (findings + 1)) left)
  finding_taken h f rows findings at missing fits same given p takes = record {
    step = finds takes missing
        (record { good = (first_passes (is_bad_finding f) BadFinding at tt _ given).0; fits = fits });
    split = ap (λ xs. letter_A ∷ xs) (parted (finding_body (tells f)) same);
  }

  -- the end, where none is missing
  pub end_taken : (h : Heading) (k rows findings : ℕ) → findings ≡ rows → k ≡ 1 + rows + findings
      → body ≡ four k ++ drop size body
      → (p : Phase) → TakesFindings p h rows findings
      → TakesEntry (reading p (letter_Z ∷ body)) (end k) (reading (Closed h rows) left)
  end_taken h k rows findings even number same p takes =
      record { step = closes takes even number; split = ap (λ xs. letter_Z ∷ xs) (parted (four k) same) }
