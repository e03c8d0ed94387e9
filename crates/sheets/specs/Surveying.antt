-- The survey of the table of a sheet.
use Rattle.std.specs.Prelude.{◌≡◌, List, map}
use Rattle.rows.specs.Found.{Found, tells}
use Rattle.bounds.specs.Values.{meaning_of}
use Rattle.findings.specs.Tables.{findings_of, TableSays}
use Rattle.leaves.specs.Contents.{Contents}
use Rattle.sheets.specs.Tables.{OnSheet}

-- the findings of a table, by the bound that its heading names
abbrev pub table_findings : OnSheet → List Found
table_findings t = findings_of (meaning_of t.heading.bound) t.heading.frame t.rows

-- of every row of a table its finding says what a finding says
abbrev pub SurveySays : OnSheet → Type 0
SurveySays t = TableSays (meaning_of t.heading.bound) t.heading.frame t.rows

-- contents are the survey of a table: they have its heading and its rows, and their findings are those of the table
pub record IsSurveyOf (t : OnSheet) (c : Contents) : Type 0 where
  pub heading : c.heading ≡ t.heading
  pub rows : c.rows ≡ t.rows
  pub findings : map tells c.findings ≡ table_findings t
