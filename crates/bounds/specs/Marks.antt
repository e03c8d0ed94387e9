-- Flags for a run of instants, and what a bound does to them.
use Rattle.std.specs.Prelude.{◌≡◌, ℕ, ◌+◌, ◌<◌, Bool, false, ◌&&◌, ◌||◌, List, length, nat_le, slice_index_or}

-- p, of the instants up to a last one
abbrev pub up_to : ℕ → (ℕ → Bool) → ℕ → Bool
up_to last p t = nat_le t last && p t

-- flags for the instants after s, of which flag k stands for s + 1 + k: afterwards a flag is set where it was, or where
-- its instant has p, and there are as many as before
pub record Marks (p : ℕ → Bool) (s : ℕ) (old new : List Bool) : Type 0 where
  pub size : length new ≡ length old
  pub each : (k : ℕ) → k < length old → slice_index_or new k false ≡ (slice_index_or old k false || p (s + 1 + k))
