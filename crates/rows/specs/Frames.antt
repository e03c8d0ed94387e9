-- When the numbers of a frame are one.
use Rattle.std.specs.Prelude.{IsTrue, ℕ, not, List, [], ◌∷◌}
use Rattle.rows.specs.declared.frames.FrameNumbers.{FrameNumbers}
use Rattle.rows.specs.declared.refusals.Refusal.TheVariants.{BadFrame}
use Rattle.rows.specs.Answers.{Check, check}
use Rattle.rows.specs.Times.{is_frame}

-- the numbers of a frame, written out
abbrev pub frame_of : ℕ → FrameNumbers
frame_of ticks = record { ticks = ticks }

-- the numbers are those of a frame: its length is from 1 to the horizon
pub record IsFrame (h : FrameNumbers) : Type 0 where
  pub ticks : IsTrue (is_frame h.ticks)

-- what is checked of them: bad frame
abbrev pub frame_checks : FrameNumbers → List Check
frame_checks h = check (not (is_frame h.ticks)) BadFrame 0 ∷ []
