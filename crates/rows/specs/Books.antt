-- The frame and the rows of a table, as its callers see them.
use Rattle.std.specs.Prelude.{ℕ, ◌+◌, Bool, not, [], ◌≤◌, List, ◌∷◌, map, length, nat_le, nat_lt}
use Rattle.std.specs.List.{AllPass}
use Rattle.rows.specs.declared.frames.FrameNumbers.{FrameNumbers}
use Rattle.rows.specs.declared.judging.Flaw.{Flaw}
use Rattle.rows.specs.declared.refusals.Refusal.TheVariants.{FullTable, OffFrame}
use Rattle.rows.specs.declared.tasks.Numbers.{Numbers}
use Rattle.rows.specs.declared.tasks.Row.{Row}
use Rattle.rows.specs.Answers.{Check, check, check_each}
use Rattle.rows.specs.Counting.{is_on_frame}
use Rattle.rows.specs.Frames.{IsFrame}
use Rattle.rows.specs.Judging.{plain, frame_flaws, table_flaw_checks}
use Rattle.rows.specs.Ranks.{rank_checks}
use Rattle.rows.specs.Times.{most_rows}

-- a book: a frame, and rows in rank order
pub record Book : Type 0 where
  pub frame : FrameNumbers
  pub rows : List Row

-- a book, written out
abbrev pub book : FrameNumbers → List Row → Book
book h rows = record { frame = h; rows = rows }

-- what every table keeps: its frame is one, all rows stand on it, and they are at most as many as a table may have
pub record IsJudged (b : Book) : Type 0 where
  pub frame : IsFrame b.frame
  pub on : AllPass (is_on_frame b.frame.ticks) b.rows
  pub few : length b.rows ≤ most_rows

-- the same in plain numbers: a frame, and the numbers of the rows
abbrev pub plain_book : Book → FrameNumbers × List Numbers
plain_book b = (b.frame, map plain b.rows)

-- there are more rows than a table may have
abbrev pub full_table : ℕ → Check
full_table rows = check (nat_lt most_rows rows) FullTable 0

-- what is checked of the numbers of a table for flaws, in order: full table; then each flaw at every rank before the
-- next, with the smallest rank concerned
abbrev pub flawless_checks : List Flaw → List Numbers → List Check
flawless_checks flaws table = full_table (length table) ∷ table_flaw_checks flaws table

-- what is checked of the numbers of a table on a frame: all flaws, so
abbrev pub judge_checks : FrameNumbers → List Numbers → List Check
judge_checks h table = flawless_checks (frame_flaws h) table

-- a row is off the frame
abbrev pub is_off : FrameNumbers → Row → Bool
is_off h r = not (is_on_frame h.ticks r)

-- what is checked of rows that are to be a table on a frame, in order: full table; then off frame, with the smallest
-- rank concerned
abbrev pub rows_checks : FrameNumbers → List Row → List Check
rows_checks h rows = full_table (length rows) ∷ check_each (is_off h) OffFrame rows ∷ []

-- what is checked of a place for one row more, at a rank, in order: full table; no rank
abbrev pub place_checks : ℕ → ℕ → List Check
place_checks rows rank = check (nat_le most_rows rows) FullTable 0 ∷ rank_checks (rows + 1) rank

-- what is checked of a row that is to be put into a table at a rank, in order: off frame; full table; no rank
abbrev pub put_checks : Book → ℕ → Row → List Check
put_checks b rank r = check (is_off b.frame r) OffFrame 0 ∷ place_checks (length b.rows) rank
