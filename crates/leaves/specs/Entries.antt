-- The bytes of an entry, and where it stands in a leaf.
use Rattle.std.specs.Prelude.{ℕ, ◌+◌, ◌*◌, List, [], ◌∷◌, ◌++◌}
use Rattle.std.specs.Option.{unwrap_or}
use Rattle.rows.specs.declared.tasks.Numbers.{Numbers}
use Rattle.rows.specs.Judging.{plain}
use Rattle.rows.specs.Found.{Found, tells}
use Rattle.leaves.specs.declared.entries.HeadingNumbers.{HeadingNumbers}
use Rattle.leaves.specs.declared.entries.Entry.{Entry}
use Rattle.leaves.specs.declared.entries.Entry.TheVariants.{Heading as heading, Row as row, Finding as finding}
use Rattle.leaves.specs.declared.entries.Entry.TheVariants.{End as end}
use Rattle.leaves.specs.Bytes.{four}
use Rattle.leaves.specs.Headings.{heading_plain}

-- the letter of a heading, F
abbrev pub letter_F : ℕ
letter_F = 70

-- the letter of a row, R
abbrev pub letter_R : ℕ
letter_R = 82

-- the letter of a finding, A
abbrev pub letter_A : ℕ
letter_A = 65

-- the letter of the end, Z
abbrev pub letter_Z : ℕ
letter_Z = 90

-- the body of a heading: the length of the frame, the bound and the accuracy
abbrev pub heading_body : HeadingNumbers → List ℕ
heading_body n = four n.frame.ticks ++ n.bound ∷ n.accuracy ∷ []

-- the body of a row: work, deadline, period and jitter
abbrev pub row_body : Numbers → List ℕ
row_body n = four n.work ++ (four n.deadline ++ (four n.period ++ four n.jitter))

-- the body of a finding: the first rest, 0 where the row misses, and the points
abbrev pub finding_body : Found → List ℕ
finding_body f = four (unwrap_or f.rest 0) ++ four f.points

-- the bytes of an entry: its letter and its body
abbrev pub entry_bytes : Entry → List ℕ
entry_bytes (heading h) = letter_F ∷ heading_body (heading_plain h)
entry_bytes (row r) = letter_R ∷ row_body (plain r)
entry_bytes (finding f) = letter_A ∷ finding_body (tells f)
entry_bytes (end n) = letter_Z ∷ four n

-- how long the body of a heading is; an entry has one byte more, its letter
abbrev pub heading_size : ℕ
heading_size = 6

-- how long the body of a row is
abbrev pub row_size : ℕ
row_size = 16

-- how long the body of a finding is
abbrev pub finding_size : ℕ
finding_size = 8

-- how long the body of the end is
abbrev pub end_size : ℕ
end_size = 4

-- where the next entry stands: after the heading and n rows
abbrev pub row_place : ℕ → ℕ
row_place n = 1 + heading_size + (1 + row_size) * n

-- after n rows and m findings
abbrev pub finding_place : ℕ → ℕ → ℕ
finding_place n m = row_place n + (1 + finding_size) * m

-- the place after the end: how long a leaf of n rows and as many findings is
abbrev pub leaf_length : ℕ → ℕ
leaf_length n = finding_place n n + 1 + end_size
