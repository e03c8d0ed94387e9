-- What a leaf holds, and its bytes.
use Rattle.std.specs.Prelude.{◌≡◌, ℕ, ◌+◌, ◌≤◌, List, [], ◌∷◌, ◌++◌, map, length}
use Rattle.std.specs.List.{flat_map, All, AllPass}
use Rattle.rows.specs.declared.tasks.Row.{Row}
use Rattle.rows.specs.Counting.{is_on_frame}
use Rattle.rows.specs.Times.{most_rows}
use Rattle.rows.specs.declared.verdicts.Finding.{Finding}
use Rattle.leaves.specs.declared.entries.Heading.{Heading}
use Rattle.leaves.specs.declared.entries.Entry.{Entry}
use Rattle.leaves.specs.declared.entries.Entry.TheVariants.{Heading as heading, Row as row, Finding as finding}
use Rattle.leaves.specs.declared.entries.Entry.TheVariants.{End as end}
use Rattle.leaves.specs.Judging.{IsFilable}
use Rattle.leaves.specs.Entries.{entry_bytes}

-- the contents of a leaf: its heading, the rows in rank order, and the findings in the same order
pub record Contents : Type 0 where
  pub heading : Heading
  pub rows : List Row
  pub findings : List Finding

-- contents, written out
abbrev pub contents : Heading → List Row → List Finding → Contents
contents h rs fs = record { heading = h; rows = rs; findings = fs }

-- the entries of a leaf: the heading, each row, each finding, and the end with the number of those before it
abbrev pub entries : Contents → List Entry
entries c =
    heading c.heading ∷ map row c.rows
    ++ (map finding c.findings ++ end (1 + length c.rows + length c.findings) ∷ [])

-- the bytes of entries, one after the other
abbrev pub bytes_of : List Entry → List ℕ
bytes_of es = flat_map entry_bytes es

-- the bytes of a leaf
abbrev pub encoding : Contents → List ℕ
encoding c = bytes_of (entries c)

-- contents that a leaf can hold: few enough rows, all on the frame, and as many findings, all of which can be filed
pub record IsLawful (c : Contents) : Type 0 where
  pub few : length c.rows ≤ most_rows
  pub on : AllPass (is_on_frame c.heading.frame.ticks) c.rows
  pub good : All IsFilable c.findings
  pub even : length c.findings ≡ length c.rows
