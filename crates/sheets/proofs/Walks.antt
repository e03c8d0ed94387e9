-- A reader on its way through a sheet.
use Rattle.std.proofs.Common.{◌≡◌, ℕ, ◌+◌, ◌<◌, true, List, [], ◌∷◌, ◌++◌, length, sym, refl, ap, ap₂, ◌∙◌, subst}
use Rattle.std.proofs.Common.{arith}
use Rattle.std.proofs.lemmas.List.Elements.{All-append, All-cons, All-nil}
use Rattle.std.proofs.lemmas.List.{append-nil, length-append, map_push}
use Rattle.rows.specs.declared.refusals.Refusal.{Refusal}
use Rattle.rows.specs.declared.tasks.Row.{Row}
use Rattle.rows.specs.Answers.{gives, refuses, first_refusal}
use Rattle.rows.specs.Counting.{is_on_frame}
use Rattle.rows.specs.Times.{most_rows}
use Rattle.leaves.specs.declared.entries.Heading.{Heading}
use Rattle.bounds.specs.Families.{bound_numbers}
use Rattle.leaves.specs.Headings.{heading_plain}
use Rattle.leaves.proofs.SameHeading.{same_heading}
use Rattle.leaves.specs.declared.entries.Entry.TheVariants.{Heading as heading, Row as row}
use Rattle.leaves.specs.Contents.{bytes_of}
use Rattle.reading.specs.declared.phases.Phase.{Phase}
use Rattle.reading.specs.declared.phases.Phase.TheVariants.{Opening, Rows}
use Rattle.reading.specs.Grammar.{Step, opens, stands}
use Rattle.reading.specs.Stepping.{Reading, TakesEntry, reading}
use Rattle.reading.proofs.Runs.{bytes_push}
use Rattle.sheets.specs.Reading.{sheet_row_checks, sheet_phase_after, IsSheetRefusedAt, in_rows, FitsSheet}
use Rattle.sheets.specs.Tables.{OnSheet, on_sheet, IsLawfulSheet, sheet_bytes, sheet_entries}

-- a reader of the bytes has come here: it stands in the rows, after the sheet of a lawful table
pub record HasRead (bytes : List ℕ) (t : OnSheet) (here : Reading) : Type 0 where
  pub phase : here.phase ≡ sheet_phase_after t
  pub split : bytes ≡ sheet_bytes t ++ here.left
  pub lawful : IsLawfulSheet t

-- where a heading leads
opens_rows : {h : Heading} {q : Phase} → Step Opening (heading h) q → q ≡ Rows h 0
opens_rows opens = refl

-- after the heading no row has come
pub read_heading : (bytes : List ℕ) (h : Heading) (here new : Reading) → here ≡ reading Opening bytes
    → TakesEntry here (heading h) new → HasRead bytes (on_sheet h []) new
read_heading bytes h here new is taken = record {
  phase = opens_rows (subst (λ p. Step p (heading h) new.phase) (ap (λ r. r.phase) is) taken.step);
  split = sym (ap (λ r. r.left) is) ∙ taken.split;
  lawful = record { frame = h.framed; on = All-nil (λ s. is_on_frame h.frame.ticks s ≡ true); few = omega arith };
}

-- a sheet is known by its frame, its bound and its rows
pub sheet_is : (t : OnSheet) (h : Heading) (rows : List Row) → t.rows ≡ rows → t.heading.frame ≡ h.frame
    → t.heading.bound ≡ h.bound → t ≡ on_sheet h rows
sheet_is t h rows same frame bound =
    let plain : heading_plain t.heading ≡ heading_plain h =
    λ i. record { frame = frame i; bound = (bound_numbers (bound i)).0; accuracy = (bound_numbers (bound i)).1 } in
    ap₂ on_sheet (same_heading t.heading h plain) same

-- where a row leads, and which can come
leads_on : {h : Heading} {n : ℕ} {r : Row} {q : Phase} → Step (Rows h n) (row r) q
    → (n < most_rows) × (is_on_frame h.frame.ticks r ≡ true) × (q ≡ Rows h (n + 1))
leads_on (stands room on) = (room, on, refl)

module _ (bytes : List ℕ) (t : OnSheet) (here : Reading) (has : HasRead bytes t here) where
  module _ (r : Row) (new : Reading) (taken : TakesEntry here (row r) new) where
    -- a row that it takes next has room, and stands on the frame
    pub next_row : (length t.rows < most_rows) × (is_on_frame t.heading.frame.ticks r ≡ true)
        × (new.phase ≡ Rows t.heading (length t.rows + 1))
    next_row = leads_on (subst (λ p. Step p (row r) new.phase) has.phase taken.step)

    -- a reader of sheets that takes a row has read one more
    pub read_row : HasRead bytes (on_sheet t.heading (t.rows ++ r ∷ [])) new
    read_row =
        let count : length t.rows + 1 ≡ length (t.rows ++ r ∷ []) = omega (arith, length-append t.rows (r ∷ [])) in
        record {
          phase = next_row.2 ∙ ap (Rows t.heading) count;
          split = has.split ∙ ap (λ xs. sheet_bytes t ++ xs) taken.split ∙ bytes_push (sheet_entries t) (row r) new.left
              ∙ ap (λ es. bytes_of (heading t.heading ∷ es) ++ new.left) (sym (map_push row t.rows r));
          lawful = record {
            frame = has.lawful.frame;
            few = omega (arith, next_row.0, count);
            on = All-append (λ s. is_on_frame t.heading.frame.ticks s ≡ true) t.rows (r ∷ []) has.lawful.on
                (All-cons (λ s. is_on_frame t.heading.frame.ticks s ≡ true) r [] next_row.1
                (All-nil (λ s. is_on_frame t.heading.frame.ticks s ≡ true)));
          };
        }

  -- where a check refuses, the refusal fits
  pub read_refused : (number : Refusal) (at : ℕ)
      → refuses number at ≡ first_refusal (sheet_row_checks here.phase here.left) → IsSheetRefusedAt bytes number at
  read_refused number at refused =
      in_rows t here.left has.lawful has.split
      (ap (λ p. first_refusal (sheet_row_checks p here.left)) (sym has.phase) ∙ sym refused)

  -- where nothing is left, the table that was read fits
  pub read_all : here.left ≡ [] → FitsSheet bytes (gives t)
  read_all ended = (has.lawful, has.split ∙ ap (λ xs. sheet_bytes t ++ xs) ended ∙ append-nil (sheet_bytes t))
