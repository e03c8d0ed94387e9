-- What a caller may know of a row on a frame, and of a question that a bound has something to answer to.
use Rattle.std.specs.Prelude.{IsTrue, ℕ}
use Rattle.rows.specs.declared.tasks.Row.{Row}
use Rattle.bounds.specs.declared.questions.Asked.{Asked}
use Rattle.bounds.specs.declared.questions.OnFrame.{OnFrame}
use Rattle.bounds.specs.Meaning.{Meaning, is_asked}

-- the frame that a row stands on, in ticks, and that row
abbrev pub frame_under : OnFrame → ℕ
frame_under s = s.frame

abbrev pub row_on : OnFrame → Row
row_on s = s.row

-- the frame of a question in ticks, its row and its instant
abbrev pub asked_frame : Asked → ℕ
asked_frame q = q.frame

abbrev pub asked_row : Asked → Row
asked_row q = q.row.now

abbrev pub asked_at : Asked → ℕ
asked_at q = q.at

-- a question is one that a bound has something to answer to
abbrev pub IsQuestion : Asked → Type 0
IsQuestion q = IsTrue (is_asked (asked_frame q) (asked_row q) (asked_at q))

-- the amount that a question asks for
abbrev pub amount_asked : Meaning → Asked → ℕ
amount_asked m q = m.amount (asked_frame q) (asked_row q) (asked_at q)
