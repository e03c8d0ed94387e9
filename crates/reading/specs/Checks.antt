-- What is checked at an entry: each check of a leaf stands here, and only here.
use Rattle.std.specs.Prelude.{ℕ, ◌+◌, Bool, not, ◌||◌, List, [], ◌∷◌, length, ◌==◌, nat_le, nat_lt, if◌then◌else◌}
use Rattle.rows.specs.declared.frames.FrameNumbers.{FrameNumbers}
use Rattle.rows.specs.declared.refusals.Refusal.TheVariants.{FullTable, CutLeaf, StrangeLetter, OutOfTurn, Miscount}
use Rattle.rows.specs.declared.refusals.Refusal.TheVariants.{LooseBytes}
use Rattle.rows.specs.Answers.{Check, check}
use Rattle.rows.specs.Judging.{frame_flaws, flaw_checks}
use Rattle.rows.specs.Times.{most_rows}
use Rattle.leaves.specs.Bytes.{number_at}
use Rattle.leaves.specs.Fields.{heading_fields, row_fields, finding_fields}
use Rattle.leaves.specs.Headings.{heading_checks}
use Rattle.leaves.specs.Judging.{finding_checks}
use Rattle.leaves.specs.Entries.{letter_F, letter_R, letter_A, letter_Z, heading_size, row_size, finding_size, end_size}
use Rattle.reading.specs.declared.phases.Phase.{Phase}
use Rattle.reading.specs.Phases.{rows_in, findings_in, frame_in, is_closed, is_in_turn}

-- the letter of some kind of entry
abbrev pub is_kind : ℕ → Bool
is_kind k = k == letter_F || (k == letter_R || (k == letter_A || k == letter_Z))

-- the bytes end inside a body of so many bytes: cut leaf, told at the first byte missing
abbrev pub cut : ℕ → ℕ → List ℕ → Check
cut size at body = check (nat_lt (length body) size) CutLeaf (at + 1 + length body)

-- no room for another row: full table
abbrev pub full_table_check : ℕ → ℕ → Check
full_table_check rows at = check (nat_le most_rows rows) FullTable at

-- no row is left for another finding: miscount
abbrev pub surplus_check : ℕ → ℕ → ℕ → Check
surplus_check rows findings at = check (nat_le rows findings) Miscount at

-- fewer findings than rows have come: miscount
abbrev pub missing_check : ℕ → ℕ → ℕ → Check
missing_check rows findings at = check (nat_lt findings rows) Miscount at

-- F: cut leaf; then its numbers
abbrev pub heading_entry_checks : ℕ → List ℕ → List Check
heading_entry_checks at body = cut heading_size at body ∷ heading_checks (heading_fields body) at

-- R on a frame, after so many rows: full table, cut leaf; then its numbers
abbrev pub row_entry_checks : FrameNumbers → ℕ → ℕ → List ℕ → List Check
row_entry_checks h rows at body =
    full_table_check rows at
    ∷ cut row_size at body
    ∷ flaw_checks (frame_flaws h) (row_fields body) at

-- A after so many rows and findings: miscount, cut leaf; then the finding
abbrev pub finding_entry_checks : ℕ → ℕ → ℕ → List ℕ → List Check
finding_entry_checks rows findings at body =
    surplus_check rows findings at
    ∷ cut finding_size at body
    ∷ finding_checks (finding_fields body) at

-- Z after so many rows and findings: miscount, cut leaf; then its number
abbrev pub end_entry_checks : ℕ → ℕ → ℕ → List ℕ → List Check
end_entry_checks rows findings at body =
    missing_check rows findings at
    ∷ cut end_size at body
    ∷ check (not (number_at 0 body == 1 + rows + findings)) Miscount at
    ∷ []

-- what is left to check of an entry whose kind is in turn
abbrev pub kind_checks : Phase → ℕ → ℕ → List ℕ → List Check
kind_checks p k at body =
    if k == letter_F then heading_entry_checks at body
    else (if k == letter_R then row_entry_checks (frame_in p) (rows_in p) at body
    else (if k == letter_A then finding_entry_checks (rows_in p) (findings_in p) at body
    else end_entry_checks (rows_in p) (findings_in p) at body))

-- all that is checked of the bytes from a place on, in order: after the end, loose bytes; before it, cut leaf where
-- no byte is left, strange letter, out of turn, and then what is left by the kind
abbrev pub next_checks : Phase → ℕ → List ℕ → List Check
next_checks p at [] = check (not (is_closed p)) CutLeaf at ∷ []
next_checks p at (k ∷ body) =
    check (is_closed p) LooseBytes at
    ∷ check (not (is_kind k)) StrangeLetter at
    ∷ check (not (is_in_turn p k)) OutOfTurn at
    ∷ kind_checks p k at body
