-- Trees of keys.
use Rattle.std.specs.Prelude.{ℕ, ◌+◌, ◌*◌, ◌<◌, ◌≤◌, List, length, slice_index_or}

-- at no inner node stands more than at a node below it
abbrev pub IsTree : List ℕ → Type 0
IsTree keys = (k : ℕ) → 1 ≤ k → k < 32 → (slice_index_or keys k 0 ≤ slice_index_or keys (2 * k) 0) ×
    (slice_index_or keys k 0 ≤ slice_index_or keys (2 * k + 1) 0)

-- at no leaf stands more than the instant of its place in a list, and a place
abbrev pub LeavesUnder : List ℕ → List ℕ → Type 0
LeavesUnder nexts keys = (k : ℕ) → k < length nexts
    → slice_index_or keys (32 + k) 0 ≤ slice_index_or nexts k 0 * 32 + 31
