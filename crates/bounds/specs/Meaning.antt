-- What a bound means, and when it is asked about something.
use Rattle.std.specs.Prelude.{ℕ, Bool, not, ◌&&◌, List, [], ◌∷◌, nat_le}
use Rattle.rows.specs.declared.refusals.Refusal.TheVariants.{BadAccuracy}
use Rattle.rows.specs.declared.tasks.Row.{Row}
use Rattle.rows.specs.Answers.{Check, check}
use Rattle.rows.specs.Times.{horizon, is_frame}
use Rattle.rows.specs.Counting.{is_on_frame}

-- a bound on the demand of rows
pub record Meaning : Type 0 where
  -- at a frame, the most that a row can demand up to an instant, in parts
  pub amount : ℕ → Row → ℕ → ℕ
  -- the corners of a row: the instants at which its amount may bend upward
  pub is_corner : Row → ℕ → Bool
  -- the accuracy k: the amount is at most (k + 1) / k times the exact steps
  pub accuracy : ℕ
  -- no row has more corners than this up to the horizon
  pub most : ℕ

-- the greatest accuracy
abbrev pub finest : ℕ
finest = 64

-- an accuracy runs from 1 to the greatest
abbrev pub is_accuracy : ℕ → Bool
is_accuracy k = nat_le 1 k && nat_le k finest

-- what is checked of it: bad accuracy
abbrev pub accuracy_checks : ℕ → List Check
accuracy_checks k = check (not (is_accuracy k)) BadAccuracy 0 ∷ []

-- a bound can be asked about a row on a frame: a number is one, and the row stands on it
abbrev pub can_be_asked : ℕ → Row → Bool
can_be_asked h r = is_frame h && is_on_frame h r

-- a bound has something to answer: the row stands on the frame, and the instant is not past the horizon
abbrev pub is_asked : ℕ → Row → ℕ → Bool
is_asked h r t = can_be_asked h r && nat_le t horizon
