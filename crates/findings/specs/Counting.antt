-- What corners are counted by: an instant before which each row above has none, and flags for a block of instants.
use Rattle.std.specs.Prelude.{◌≡◌, ℕ, ◌+◌, ◌<◌, Bool, false, List, length, sum_by, slice_index_or, if◌then◌else◌}
use Rattle.rows.specs.declared.tasks.Row.{Row}
use Rattle.std.specs.Option.{unwrap_or}
use Rattle.rows.specs.Times.{horizon}
use Rattle.bounds.specs.Meaning.{Meaning}
use Rattle.bounds.specs.Answering.{corner_after}
use Rattle.findings.specs.Demand.{Load}
use Rattle.findings.specs.Points.{is_bend}

-- corners up to here are flagged for all rows of a table
abbrev pub near : ℕ
near = 512

-- the next corner of a row after t, or one past the horizon where it has none
abbrev pub next_after : Meaning → ℕ → Row → ℕ
next_after m t r = unwrap_or (corner_after m r t) (horizon + 1)

-- t is a corner of some row above
abbrev pub is_corner_above : Load → ℕ → Bool
is_corner_above l t = is_bend l.bound l.above t

-- between t and a later instant the row at a place above has no corner
abbrev pub IsAhead : Load → ℕ → ℕ → ℕ → Type 0
IsAhead l k t next =
    (t < next) × ((r : Row) (u : ℕ) → t < u → u < next → l.bound.is_corner (slice_index_or l.above k r) u ≡ false)

-- the list has such an instant for each row above
pub record LookAhead (l : Load) (t : ℕ) (nexts : List ℕ) : Type 0 where
  pub size : length nexts ≡ length l.above
  pub each : (k : ℕ) → k < length l.above → IsAhead l k t (slice_index_or nexts k 0)

-- how many flags are set
abbrev pub set_flags : List Bool → ℕ
set_flags flags = sum_by (λ flag. if flag then 1 else 0) flags
