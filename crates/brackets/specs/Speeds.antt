-- First rests in exact steps on a processor of some speed: it serves a ticks of work within b ticks.
use Rattle.std.specs.Prelude.{◌≡◌, ℕ, ◌+◌, ◌*◌, Bool, List, Option, nat_le}
use Rattle.std.specs.Option.{option_map}
use Rattle.rows.specs.declared.frames.FrameNumbers.{FrameNumbers}
use Rattle.rows.specs.declared.tasks.Row.{Row}
use Rattle.rows.specs.Counting.{window}
use Rattle.bounds.specs.Instants.{least}
use Rattle.bounds.specs.Supplied.{exact_steps}
use Rattle.findings.specs.Countable.{StandOn}
use Rattle.findings.specs.Exact.{exact_demand}
use Rattle.findings.specs.Findings.{row_finding}

-- the row rests at t at that speed
abbrev pub is_rest_at_speed : ℕ → ℕ → Row → List Row → ℕ → Bool
is_rest_at_speed a b r above t = nat_le (b * exact_demand r above t) (a * t)

-- its first rest at that speed
unfoldable pub rest_at_speed : ℕ → ℕ → Row → List Row → Option ℕ
rest_at_speed a b r above = least (is_rest_at_speed a b r above) (window r) 1

-- on every frame that the rows above stand on, o is the first rest in exact steps plus the jitter, or none where the
-- row misses
abbrev pub IsExactOnFrames : Row → List Row → Option ℕ → Type 0
IsExactOnFrames r above o =
    (h : FrameNumbers) → StandOn h.ticks above
    → o ≡ option_map (λ t. t + r.jitter) (row_finding exact_steps h r above).rest
