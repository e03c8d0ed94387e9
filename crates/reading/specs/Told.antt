-- The rows of a leaf that was read, each with its finding.
use Rattle.std.specs.Prelude.{ℕ, zero, suc, ◌+◌, ◌/◌, List, [], ◌∷◌, map, length, drop}
use Rattle.std.specs.List.{zip}
use Rattle.rows.specs.declared.tasks.Numbers.{Numbers}
use Rattle.rows.specs.declared.tasks.Row.{Row}
use Rattle.rows.specs.declared.verdicts.Finding.{Finding}
use Rattle.rows.specs.Judging.{plain}
use Rattle.rows.specs.Found.{Found, tells}
use Rattle.leaves.specs.Contents.{Contents}
use Rattle.leaves.specs.Entries.{row_size, finding_size}
use Rattle.leaves.specs.Fields.{row_fields, finding_fields}
use Rattle.reading.specs.declared.held.Leaf.{Leaf}
use Rattle.reading.specs.declared.held.RowsWithFindings.{RowsWithFindings}
use Rattle.reading.specs.Leaves.{row_bytes, finding_bytes}

-- a row and its finding in plain numbers
abbrev pub told : Row × Finding → Numbers × Found
told e = (plain e.0, tells e.1)

-- the first n rows and findings that bytes tell
abbrev pub told_in : ℕ → List ℕ → List ℕ → List (Numbers × Found)
told_in zero rs fs = []
told_in (suc n) rs fs =
    (row_fields (drop 1 rs), tells (finding_fields (drop 1 fs)))
    ∷ told_in n (drop (1 + row_size) rs) (drop (1 + finding_size) fs)

-- all that a leaf tells, in rank order
abbrev pub all_told : Leaf → List (Numbers × Found)
all_told leaf = told_in (length (row_bytes leaf) / (1 + row_size)) (row_bytes leaf) (finding_bytes leaf)

-- what contents tell: the rows in rank order, each with its finding
abbrev pub told_of : Contents → List (Numbers × Found)
told_of c = zip (map plain c.rows) (map tells c.findings)

-- what is still to come of a leaf
abbrev pub still_told : RowsWithFindings → List (Numbers × Found)
still_told rest = drop rest.seen (all_told rest.leaf)
