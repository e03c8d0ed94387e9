-- A table that was counted by one bound, and its leaf.
use Rattle.std.specs.Prelude.{◌≡◌, ℕ, List, map}
use Rattle.rows.specs.declared.frames.FrameNumbers.{FrameNumbers}
use Rattle.rows.specs.declared.tasks.Row.{Row}
use Rattle.rows.specs.Found.{Found, tells}
use Rattle.bounds.specs.declared.families.Family.{Family}
use Rattle.bounds.specs.Families.{family_meaning, family_number}
use Rattle.findings.specs.Tables.{findings_of}
use Rattle.leaves.specs.declared.entries.HeadingNumbers.{HeadingNumbers}
use Rattle.leaves.specs.Contents.{Contents, IsLawful}
use Rattle.leaves.specs.Headings.{heading_plain}

-- a table that was counted by one bound: its frame, the kind of the bound with the accuracy that is told with it, and
-- the rows in rank order
pub record Filed : Type 0 where
  pub frame : FrameNumbers
  pub bound : Family × ℕ
  pub rows : List Row

-- a counted table, written out
abbrev pub filed : FrameNumbers → Family × ℕ → List Row → Filed
filed h b rows = record { frame = h; bound = b; rows = rows }

-- the findings about its rows, by what the bound means
abbrev pub filed_findings : Filed → List Found
filed_findings f = findings_of (family_meaning f.bound.0 f.bound.1) f.frame f.rows

-- the numbers of a heading: the frame, the number of the kind of the bound, and the accuracy
abbrev pub heading_numbers : FrameNumbers → Family × ℕ → HeadingNumbers
heading_numbers h b = record { frame = h; bound = family_number b.0; accuracy = b.1 }

-- contents are the leaf of a counted table: the heading tells its frame and its bound, the rows are those of the table,
-- and the findings tell what the bound finds
pub record IsLeafOfCount (f : Filed) (c : Contents) : Type 0 where
  pub lawful : IsLawful c
  pub heading : heading_plain c.heading ≡ heading_numbers f.frame f.bound
  pub rows : c.rows ≡ f.rows
  pub findings : map tells c.findings ≡ filed_findings f
