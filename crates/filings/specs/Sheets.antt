-- The sheet of a table of numbers.
use Rattle.std.specs.Prelude.{◌≡◌, ℕ, List, [], ◌∷◌, ◌++◌, map, length, Option, nat_lt}
use Rattle.rows.specs.declared.frames.FrameNumbers.{FrameNumbers}
use Rattle.rows.specs.declared.refusals.Refusal.TheVariants.{ShortBuffer}
use Rattle.rows.specs.declared.tasks.Numbers.{Numbers}
use Rattle.rows.specs.Answers.{Check, check}
use Rattle.rows.specs.Judging.{plain, rows_of}
use Rattle.bounds.specs.declared.families.Family.{Family}
use Rattle.leaves.specs.declared.entries.HeadingNumbers.{HeadingNumbers}
use Rattle.leaves.specs.Entries.{row_place}
use Rattle.leaves.specs.Headings.{heading_plain}
use Rattle.sheets.specs.Tables.{OnSheet, IsLawfulSheet}
use Rattle.filings.specs.Checks.{filing_checks}

-- how many bytes the sheet of a table of numbers has
abbrev pub sheet_length : List Numbers → ℕ
sheet_length table = row_place (length table)

-- what is checked of a buffer of so many bytes for it: short buffer
abbrev pub room_checks : List Numbers → ℕ → List Check
room_checks table size = check (nat_lt size (sheet_length table)) ShortBuffer 0 ∷ []

-- what is checked before it is written, in order: all that is checked of the table that is to be counted by the bound
-- that the sheet names, and then the buffer
abbrev pub sheet_checks : Option FrameNumbers → Family × ℕ → List Numbers → ℕ → List Check
sheet_checks frame bound table size = filing_checks frame (bound ∷ []) table ++ room_checks table size

-- a table to be surveyed is that of numbers and the numbers of a heading: it is lawful, and its rows are those of the
-- numbers
pub record IsTableOf (n : HeadingNumbers) (ns : List Numbers) (t : OnSheet) : Type 0 where
  pub lawful : IsLawfulSheet t
  pub heading : heading_plain t.heading ≡ n
  pub rows : t.rows ≡ rows_of ns
  pub numbers : map plain t.rows ≡ ns
