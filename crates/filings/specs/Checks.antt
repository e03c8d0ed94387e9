-- What is checked of a table before it is counted or written as a sheet.
use Rattle.std.specs.Prelude.{ℕ, not, List, [], ◌∷◌, ◌++◌, map, is_some, Some, None, Option}
use Rattle.std.specs.Option.{unwrap_or}
use Rattle.rows.specs.declared.frames.FrameNumbers.{FrameNumbers}
use Rattle.rows.specs.declared.judging.Flaw.TheVariants.{Off}
use Rattle.rows.specs.declared.refusals.Refusal.TheVariants.{BadAccuracy, BadFrame}
use Rattle.rows.specs.declared.tasks.Numbers.{Numbers}
use Rattle.rows.specs.Answers.{Check, check}
use Rattle.rows.specs.Books.{flawless_checks}
use Rattle.rows.specs.Frames.{frame_of, frame_checks}
use Rattle.rows.specs.Judging.{row_flaws, table_flaw_check}
use Rattle.bounds.specs.declared.families.Family.{Family}
use Rattle.bounds.specs.Families.{can_have}
use Rattle.filings.specs.Frames.{common_frame}

-- of a frame that is given: bad frame
abbrev pub given_frame_checks : Option FrameNumbers → List Check
given_frame_checks (Some h) = frame_checks h
given_frame_checks None = []

-- of a bound that is named by its kind and an accuracy: bad accuracy
abbrev pub bound_check : Family × ℕ → Check
bound_check b = check (not (can_have b.0 b.1)) BadAccuracy 0

-- of several, in their order
abbrev pub bound_checks : List (Family × ℕ) → List Check
bound_checks bounds = map bound_check bounds

-- of the periods of a table: off frame with the smallest rank concerned, where a frame is given; else bad frame, where
-- there is no common one
abbrev pub period_check : Option FrameNumbers → List Numbers → Check
period_check (Some h) table = table_flaw_check table (Off h)
period_check None table = check (not (is_some (common_frame table))) BadFrame 0

-- of a table, in order: full table; idle row, no window, late deadline and long period, each at every rank before the
-- next, with the smallest rank concerned; and then its periods
abbrev pub table_checks : Option FrameNumbers → List Numbers → List Check
table_checks frame table = flawless_checks row_flaws table ++ period_check frame table ∷ []

-- all of it, in order: the frame, the accuracies of the bounds that are named, the table
abbrev pub filing_checks : Option FrameNumbers → List (Family × ℕ) → List Numbers → List Check
filing_checks frame bounds table =
    given_frame_checks frame ++ (bound_checks bounds ++ table_checks frame table)

-- the frame of a table: the one that is given, or else the common one
abbrev pub frame_for : Option FrameNumbers → List Numbers → FrameNumbers
frame_for (Some h) table = h
frame_for None table = unwrap_or (common_frame table) (frame_of 0)
