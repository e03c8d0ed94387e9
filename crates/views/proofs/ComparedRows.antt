-- Rows of two leaves told beside each other.
use Rattle.std.proofs.Common.{◌≡◌, ℕ, ◌+◌, List, map, None, Option}
use Rattle.std.specs.List.{enumerate_from, zip}
use Rattle.std.specs.Iterator.{Yields, YieldsFirstBy}
use Rattle.std.specs.Iterator.Adapters.{enumerate_count, enumerate_source, enumerate_steps}
use Rattle.std.specs.Iterator.Adapters.{zip_first, zip_second, zip_steps}
use Rattle.std.specs.declared.iter.Enumerate.{Enumerate}
use Rattle.std.specs.declared.iter.Zip.{Zip}
use Rattle.std.proofs.lemmas.Iterator.{YieldsList, YieldsList-from_zip}
use Rattle.std.proofs.lemmas.Iterator.Consumers.{YieldsList-from_enumerate, YieldsList-from_first}
use Rattle.rows.specs.declared.tasks.Numbers.{Numbers}
use Rattle.rows.specs.declared.tasks.Row.{Row}
use Rattle.rows.specs.declared.verdicts.Finding.{Finding}
use Rattle.rows.specs.Found.{Found}
use Rattle.leaves.specs.Contents.{Contents}
use Rattle.reading.specs.declared.held.RowsWithFindings.{RowsWithFindings}
use Rattle.reading.specs.Told.{told, told_of, still_told}
use Rattle.views.specs.Compared.{compared_rows, compared_texts}
use Rattle.views.proofs.Told.{told_all}

-- a row with its finding
abbrev pub One : Type 0
One = Row × Finding

-- two leaves gone through side by side, and what comes next
abbrev pub Both : Type 0
Both = Enumerate (Zip RowsWithFindings RowsWithFindings)

abbrev pub BothGive : Both → Option (ℕ × (One × One)) → Both → Type 0
BothGive = enumerate_steps (zip_steps (YieldsFirstBy told still_told) (YieldsFirstBy told still_told))

-- what is told of two rows with their findings that came at a place
abbrev pub compared_item : ℕ × (One × One) → List (List ℕ)
compared_item e = compared_texts (e.0 + 1) (told e.1.0).0 (told e.1.0).1 (told e.1.1).1

-- what two rows with their findings tell that came at a place
abbrev pub told_both : ℕ × (One × One) → ℕ × ((Numbers × Found) × (Numbers × Found))
told_both e = (e.0, (told e.1.0, told e.1.1))

-- the rows of both leaves come with their findings, in rank order
pub both_give : (c d : Contents) (from : Both)
    → still_told (zip_first (enumerate_source from)) ≡ told_of c
    → still_told (zip_second (enumerate_source from)) ≡ told_of d
    → enumerate_count from ≡ 0
    → YieldsList BothGive told_both from (enumerate_from 0 (zip (told_of c) (told_of d)))
both_give c d from one two begins =
    let first = YieldsList-from_first told still_told (told_of c) one in
    let second = YieldsList-from_first told still_told (told_of d) two in
    YieldsList-from_enumerate (YieldsList-from_zip first second) begins

-- where nothing more comes, all rows were told
pub leaves_told : (c d : Contents) (from to last : Both) (seen : List (ℕ × (One × One))) (r : Option (ℕ × (One × One)))
    → YieldsList BothGive told_both from (enumerate_from 0 (zip (told_of c) (told_of d)))
    → Yields BothGive from seen to → r ≡ None → BothGive to r last
    → map compared_item seen ≡ compared_rows c d
leaves_told c d from to last seen r gives yielded none ends =
    told_all (λ rank e. compared_texts rank e.0.0 e.0.1 e.1.1) (λ e. (told e.0, told e.1))
    (zip (told_of c) (told_of d)) from to last seen r gives yielded none ends
