-- The survey of a whole table of numbers that nobody has judged yet.
use Rattle.std.specs.Prelude.{ℕ, List, ◌++◌, length}
use Rattle.rows.specs.declared.frames.FrameNumbers.{FrameNumbers}
use Rattle.rows.specs.declared.tasks.Numbers.{Numbers}
use Rattle.rows.specs.Answers.{Check}
use Rattle.rows.specs.Frames.{frame_checks}
use Rattle.rows.specs.Judging.{frame_flaws, table_flaw_checks}
use Rattle.findings.specs.Asking.{size_checks}

-- what is checked of a survey that is to fill a list of so many places, in order: bad frame, full table
-- and short list; then idle row, no window, late deadline, long period and off frame, each at every rank before
-- the next, with the smallest rank concerned
abbrev pub survey_checks : FrameNumbers → List Numbers → ℕ → List Check
survey_checks h table places =
    frame_checks h ++ (size_checks (length table) places ++ table_flaw_checks (frame_flaws h) table)
