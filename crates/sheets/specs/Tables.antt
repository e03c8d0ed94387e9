-- What a sheet holds. A sheet is a table that waits to be surveyed.
use Rattle.std.specs.Prelude.{ℕ, List, ◌∷◌, map}
use Rattle.rows.specs.declared.tasks.Row.{Row}
use Rattle.rows.specs.Books.{IsJudged, book}
use Rattle.leaves.specs.declared.entries.Heading.{Heading}
use Rattle.leaves.specs.declared.entries.Entry.{Entry}
use Rattle.leaves.specs.declared.entries.Entry.TheVariants.{Heading as heading, Row as row}
use Rattle.leaves.specs.Contents.{bytes_of}

-- what stands on a sheet, a table to be surveyed: a heading, which tells the frame and the bound to count by, and the
-- rows in rank order
pub record OnSheet : Type 0 where
  pub heading : Heading
  pub rows : List Row

-- what stands on a sheet, written out
abbrev pub on_sheet : Heading → List Row → OnSheet
on_sheet h rs = record { heading = h; rows = rs }

-- a sheet can hold it: its frame and its rows are those of a table
abbrev pub IsLawfulSheet : OnSheet → Type 0
IsLawfulSheet t = IsJudged (book t.heading.frame t.rows)

-- the entries of the sheet of a table: the heading and each row
abbrev pub sheet_entries : OnSheet → List Entry
sheet_entries t = heading t.heading ∷ map row t.rows

-- the bytes of the sheet of a table
abbrev pub sheet_bytes : OnSheet → List ℕ
sheet_bytes t = bytes_of (sheet_entries t)
