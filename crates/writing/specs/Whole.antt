-- A whole leaf filed by one call.
use Rattle.std.specs.Prelude.{◌≡◌, ℕ, not, List, [], ◌∷◌, ◌++◌, length, min, take, ◌==◌, nat_lt}
use Rattle.rows.specs.declared.frames.FrameNumbers.{FrameNumbers}
use Rattle.rows.specs.declared.refusals.Refusal.TheVariants.{OffFrame, FullTable, Miscount, BadFinding, ShortBuffer}
use Rattle.rows.specs.declared.tasks.Row.{Row}
use Rattle.rows.specs.Answers.{gives, Check, check, check_places}
use Rattle.rows.specs.Books.{is_off}
use Rattle.rows.specs.Lists.{written}
use Rattle.rows.specs.Times.{most_rows}
use Rattle.rows.specs.declared.verdicts.Finding.{Finding}
use Rattle.leaves.specs.declared.entries.HeadingNumbers.{HeadingNumbers}
use Rattle.leaves.specs.Contents.{Contents, encoding, IsLawful}
use Rattle.leaves.specs.Entries.{row_place, finding_place, leaf_length}
use Rattle.leaves.specs.Headings.{heading_checks, heading_plain}
use Rattle.leaves.specs.Judging.{is_bad_finding}
use Rattle.reading.specs.Whole.{Fits}

-- a heading's numbers, rows and findings are those of contents
pub record AreOf (n : HeadingNumbers) (rs : List Row) (fs : List Finding) (c : Contents) : Type 0 where
  pub heading : heading_plain c.heading ≡ n
  pub rows : c.rows ≡ rs
  pub findings : c.findings ≡ fs

-- what is checked of rows on a frame: full table, told where the row too many would stand; then off frame, told at the
-- first row that is
abbrev pub whole_row_checks : FrameNumbers → List Row → List Check
whole_row_checks h rows =
    check (nat_lt most_rows (length rows)) FullTable (row_place most_rows)
    ∷ check_places (is_off h) OffFrame row_place rows
    ∷ []

-- what is checked of the findings about n rows: miscount, told at the first finding too many or at the end that comes
-- too early; then bad finding, told at the first that is
abbrev pub whole_finding_checks : ℕ → List Finding → List Check
whole_finding_checks n findings =
    check (not (length findings == n)) Miscount (finding_place n (min n (length findings)))
    ∷ check_places is_bad_finding BadFinding (finding_place n) findings
    ∷ []

-- what is checked of a whole leaf on a frame for a buffer of so many bytes: its rows, its findings, and room for all of
-- it
abbrev pub file_checks : FrameNumbers → List Row → List Finding → ℕ → List Check
file_checks h rows findings size =
    whole_row_checks h rows
    ++ (whole_finding_checks (length rows) findings
    ++ check (nat_lt size (leaf_length (length rows))) ShortBuffer 0 ∷ [])

-- a whole leaf in plain numbers: its heading's, and then the leaf
abbrev pub file_numbers_checks : HeadingNumbers → List Row → List Finding → ℕ → List Check
file_numbers_checks n rows findings size = heading_checks n 0 ++ file_checks n.frame rows findings size

-- contents are filed in so many bytes: a leaf can hold them, of the buffer their bytes are written from the first place
-- on, and no other byte, and a reader of so many bytes reads them
pub record IsFiled (c : Contents) (old new : List ℕ) (size : ℕ) : Type 0 where
  pub lawful : IsLawful c
  pub bytes : new ≡ written old 0 (encoding c)
  pub fits : Fits (take size new) (gives c)
