-- How far a script has been read byte by byte, and what was written for it, with no more of a line kept than decides.
use Rattle.std.specs.Prelude.{ℕ, ◌==◌, List, [], ◌∷◌, ◌++◌, take, if◌then◌else◌}
use Rattle.scripts.specs.declared.player.Player.{Player}
use Rattle.scripts.specs.Buffers.{room}
use Rattle.scripts.specs.Scripts.{line_feed, without_return}
use Rattle.scripts.specs.Sessions.{Stage, first_stage, stage_behind, written_for, state_of}

-- the stage behind the last line that has ended, and the first bytes of the line that has begun
pub record PlayState : Type 0 where
  pub stage : Stage
  pub line : List ℕ

-- before the first byte
abbrev pub first_progress : PlayState
first_progress = record { stage = first_stage; line = [] }

-- the progress of a player
abbrev pub progress_of : Player → PlayState
progress_of p = record { stage = record { number = p.number; state = state_of p.session }; line = p.line }

-- the progress once the line that has begun ends
abbrev pub once_ended : PlayState → PlayState
once_ended p = record { stage = stage_behind p.stage (without_return p.line); line = [] }

-- what is written for that line
abbrev pub written_at_end : PlayState → List ℕ
written_at_end p = written_for p.stage (without_return p.line)

-- the progress after one byte more
abbrev pub after_byte : PlayState → ℕ → PlayState
after_byte p b =
    if b == line_feed then once_ended p else record { stage = p.stage; line = take room (p.line ++ b ∷ []) }

-- what is written for it: the answer to the line that it ends, if it ends one
abbrev pub written_for_byte : PlayState → ℕ → List ℕ
written_for_byte p b = if b == line_feed then written_at_end p else []

-- the progress after some bytes
abbrev pub after_bytes : PlayState → List ℕ → PlayState
after_bytes p [] = p
after_bytes p (b ∷ bytes) = after_bytes (after_byte p b) bytes

-- what is written for them
abbrev pub written_for_bytes : PlayState → List ℕ → List ℕ
written_for_bytes p [] = []
written_for_bytes p (b ∷ bytes) = written_for_byte p b ++ written_for_bytes (after_byte p b) bytes

-- what is written where the input ends: the line that has begun ends with it
abbrev pub written_last : PlayState → List ℕ
written_last p = ended_with p p.line
  where
    ended_with : PlayState → List ℕ → List ℕ
    ended_with p [] = []
    ended_with p (b ∷ line) = written_at_end p
