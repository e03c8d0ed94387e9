-- A sheet filed in turn: a heading and rows behind it.
use Rattle.std.proofs.Common.{◌≡◌, ℕ, ◌+◌, ◌*◌, ◌<◌, ◌≤◌, true, not, leb, ltb, List, [], ◌∷◌, ◌++◌, map, length, take}
use Rattle.std.proofs.Common.{Ok, Err, Option, Result, sym, refl, ap, ◌∙◌, ap₂, subst, arith}
use Rattle.std.proofs.lemmas.List.{length-map, map_push}
use Rattle.std.proofs.lemmas.Bool.{le-ltb, lt-leb, not_from_true}
use Rattle.std.specs.Prelude.{OnOk}
use Rattle.std.specs.Result.{IsOk}
use Rattle.rows.specs.declared.refusals.Refusal.TheVariants.{OffFrame, FullTable, ShortBuffer}
use Rattle.rows.specs.declared.refusals.Fault.{Fault}
use Rattle.rows.specs.Times.{most_rows}
use Rattle.rows.proofs.Checks.{passed_first, passes_on}
use Rattle.leaves.specs.Entries.{row_size}
use Rattle.writing.specs.Checks.{filed_row_checks}
use Rattle.rows.specs.declared.frames.FrameNumbers.{FrameNumbers}
use Rattle.rows.specs.declared.tasks.Numbers.{Numbers}
use Rattle.rows.specs.declared.tasks.Row.{Row}
use Rattle.bounds.specs.declared.families.Family.{Family}
use Rattle.rows.specs.Answers.{checked, gives, refusal, first_refusal}
use Rattle.rows.specs.Books.{Book, IsJudged, book}
use Rattle.rows.specs.Counting.{is_on_frame}
use Rattle.rows.specs.Judging.{plain, rows_of}
use Rattle.rows.specs.Lists.{written}
use Rattle.leaves.specs.declared.entries.Heading.{Heading}
use Rattle.leaves.specs.declared.entries.HeadingNumbers.{HeadingNumbers}
use Rattle.leaves.specs.Headings.{heading_plain}
use Rattle.leaves.specs.declared.entries.Entry.TheVariants.{Heading as heading, Row as row}
use Rattle.leaves.specs.Entries.{row_place}
use Rattle.reading.specs.declared.phases.Phase.{Phase}
use Rattle.reading.specs.declared.phases.Phase.TheVariants.{Opening, Rows}
use Rattle.reading.specs.Grammar.{Step, opens}
use Rattle.reading.specs.Phases.{place_of, rows_in, frame_in}
use Rattle.reading.proofs.Runs.{run_place}
use Rattle.writing.specs.Filing.{Files, FilesAll, files}
use Rattle.writing.proofs.Filed.{rows_filed}
use Rattle.writing.proofs.Turns.{file_push, turned}
use Rattle.writing.proofs.Written.{take_written}
use Rattle.sheets.specs.Reading.{FitsSheet}
use Rattle.sheets.specs.Tables.{OnSheet, on_sheet, sheet_bytes}
use Rattle.filings.specs.Checks.{filing_checks}
use Rattle.filings.specs.Sheets.{IsTableOf, room_checks, sheet_checks, sheet_length}

-- a heading opens the rows
pub opened_by : {p q : Phase} {h : Heading} → Step p (heading h) q → q ≡ Rows h 0
opened_by opens = refl

-- a sheet that was written: its bytes, and where they end
pub record Sheeted (old : List ℕ) (t : OnSheet) (end_at : ℕ) (new : List ℕ) : Type 0 where
  pub bytes : new ≡ written old 0 (sheet_bytes t)
  pub place : end_at ≡ row_place (length t.rows)
  pub whole : take end_at new ≡ sheet_bytes t

pub sheeted : {p q : Phase} {old between new : List ℕ} (h : Heading) (rs : List Row)
    → Files Opening old (heading h) p between → FilesAll p between (map row rs) q new
    → Sheeted old (on_sheet h rs) (place_of q) new
sheeted {p = p} {q = q} {old = old} {between = between} {new = new} h rs begun all =
    let turn = turned (files begun all) (omega arith) in
    let bytes : new ≡ written old 0 (sheet_bytes (on_sheet h rs)) = turn.bytes in
    let upto : place_of q ≡ 0 + length (sheet_bytes (on_sheet h rs)) = omega (arith, run_place turn.run) in
    record {
      bytes = bytes;
      place = omega (arith, (rows_filed rs all).place, ap place_of (opened_by begun.step));
      whole = ap₂ take upto bytes ∙ take_written old 0 (omega arith) (sheet_bytes (on_sheet h rs));
    }

-- rows filed behind a heading, and one row of the same table more
module _ {p q : Phase} {old now : List ℕ} (rs : List Row) (empty : rows_in p ≡ 0)
    (all : FilesAll p old (map row rs) q now) (r : Row) where
  -- is not refused, where there is room for it
  pub row_taken : (answered : Result (Unit {0}) Fault)
      → refusal answered ≡ first_refusal (filed_row_checks q r (length now)) → length rs < most_rows
      → is_on_frame (frame_in p).ticks r ≡ true → place_of p + (1 + row_size) * (length rs + 1) ≤ length old
      → IsOk answered
  row_taken answered told few on room =
      let so_far = rows_filed rs all in
      let here : is_on_frame (frame_in q).ticks r ≡ true = ap (λ h. is_on_frame h.ticks r) so_far.frame ∙ on in
      let passes : first_refusal (filed_row_checks q r (length now)) ≡ gives tt =
      passes_on (leb most_rows (rows_in q)) FullTable (place_of q) _
      (lt-leb most_rows (rows_in q) (omega (arith, so_far.rows, empty, few)))
      ∙ passes_on (not (is_on_frame (frame_in q).ticks r)) OffFrame (place_of q) _ (not_from_true _ here)
      ∙ passes_on (ltb (length now) (place_of q + 1 + row_size)) ShortBuffer (place_of q) (gives tt)
      (le-ltb (length now) (place_of q + 1 + row_size) (omega (arith, so_far.place, so_far.size, room))) in
      by answered (told ∙ passes)
    where
      by : (answered : Result (Unit {0}) Fault) → refusal answered ≡ gives tt → IsOk answered
      by (Ok u) given = refl
      by (Err fault) given = cc

  -- once one row more is filed, all rows up to it are
  pub rows_taken : {s : Phase} {new : List ℕ} (more : List Row) (answered : Result (Unit {0}) Fault) (u : Unit {0})
      → answered ≡ Ok u → OnOk answered (Files q now (row r) s new) → more ≡ rs ++ r ∷ []
      → FilesAll p old (map row more) s new
  rows_taken {s = s} {new = new} more answered u is filed are =
      let one : Files q now (row r) s new = subst (λ a. OnOk a (Files q now (row r) s new)) is filed in
      subst (λ es. FilesAll p old es s new) (sym (ap (map row) are ∙ map_push row rs r)) (file_push all one)

-- of a sheet for which there is room nothing is left to be checked
pub sheet_told : (frame : Option FrameNumbers) (bound : Family × ℕ) (numbers : List Numbers) (size n : ℕ)
    → gives n ≡ checked (filing_checks frame (bound ∷ []) numbers) n → sheet_length numbers ≤ size
    → gives n ≡ checked (sheet_checks frame bound numbers size) n
sheet_told frame bound numbers size n given room =
    sym (passes_on (ltb size (sheet_length numbers)) ShortBuffer 0 (gives n) (le-ltb size (sheet_length numbers) room))
    ∙ passed_first (filing_checks frame (bound ∷ []) numbers) (room_checks numbers size) n n given n

-- the rows of numbers, filed behind a heading, are a sheet of these numbers
pub sheet_written : {p q : Phase} {old between new : List ℕ} (h : Heading) (rs : List Row) (numbers : List Numbers)
    (n : HeadingNumbers) (end_at : ℕ) → Files Opening old (heading h) p between → FilesAll p between (map row rs) q new
    → end_at ≡ place_of q → heading_plain h ≡ n → IsJudged (book h.frame rs) → rs ≡ rows_of numbers
    → map plain (rows_of numbers) ≡ numbers
    → (t : OnSheet) × IsTableOf n numbers t × (new ≡ written old 0 (sheet_bytes t))
    × FitsSheet (take end_at new) (gives t)
sheet_written {q = q} {new = new} h rs numbers n end_at begun all place named judged are plain_are =
    let sheet = sheeted h rs begun all in (
      on_sheet h rs,
      record { lawful = judged; heading = named; rows = are; numbers = ap (map plain) are ∙ plain_are },
      sheet.bytes,
      (judged, ap (λ k. take k new) place ∙ sheet.whole),
    )

-- there are as many rows as numbers
pub as_many : (t : Book) (h : FrameNumbers) (numbers : List Numbers) → t ≡ book h (rows_of numbers)
    → map plain (rows_of numbers) ≡ numbers → length t.rows ≡ length numbers
as_many t h numbers made are = ap (λ b. length b.rows) made ∙ sym (length-map (rows_of numbers) plain) ∙ ap length are
