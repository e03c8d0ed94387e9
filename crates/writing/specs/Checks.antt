-- What is checked before an entry is filed: each check tells the place at which the entry was to begin.
use Rattle.std.specs.Prelude.{ℕ, ◌+◌, List, [], ◌∷◌, ◌++◌, nat_lt}
use Rattle.rows.specs.declared.refusals.Refusal.TheVariants.{OffFrame, ShortBuffer}
use Rattle.rows.specs.declared.tasks.Row.{Row}
use Rattle.rows.specs.Answers.{Check, check}
use Rattle.rows.specs.Books.{is_off}
use Rattle.rows.specs.declared.verdicts.Finding.{Finding}
use Rattle.leaves.specs.declared.entries.HeadingNumbers.{HeadingNumbers}
use Rattle.leaves.specs.Entries.{heading_size, row_size, finding_size, end_size}
use Rattle.leaves.specs.Headings.{heading_checks}
use Rattle.leaves.specs.Judging.{finding_checks as judgement}
use Rattle.reading.specs.declared.phases.Phase.{Phase}
use Rattle.reading.specs.Checks.{full_table_check, surplus_check, missing_check}
use Rattle.reading.specs.Phases.{place_of, rows_in, findings_in, frame_in}

-- an entry whose body has so many bytes passes the end of the buffer: short buffer
abbrev pub room : ℕ → ℕ → ℕ → Check
room size at length = check (nat_lt length (at + 1 + size)) ShortBuffer at

-- a heading: room for it
abbrev pub begin_checks : ℕ → List Check
begin_checks length = room heading_size 0 length ∷ []

-- a heading in plain numbers: the numbers, and then the heading
abbrev pub begin_numbers_checks : HeadingNumbers → ℕ → List Check
begin_numbers_checks n length = heading_checks n 0 ++ begin_checks length

-- a row: full table, off frame, and room for it
abbrev pub filed_row_checks : Phase → Row → ℕ → List Check
filed_row_checks p r length =
    full_table_check (rows_in p) (place_of p)
    ∷ check (is_off (frame_in p) r) OffFrame (place_of p)
    ∷ room row_size (place_of p) length
    ∷ []

-- a finding: miscount where as many findings as rows are filed, bad finding, and room for it
abbrev pub filed_finding_checks : Phase → Finding → ℕ → List Check
filed_finding_checks p f length =
    surplus_check (rows_in p) (findings_in p) (place_of p)
    ∷ judgement f (place_of p)
    ++ room finding_size (place_of p) length ∷ []

-- the end: miscount where fewer findings than rows are filed, and room for it
abbrev pub close_checks : Phase → ℕ → List Check
close_checks p length = missing_check (rows_in p) (findings_in p) (place_of p) ∷ room end_size (place_of p) length ∷ []
