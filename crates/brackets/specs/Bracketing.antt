-- First rests compared: in exact steps, by a bound, and in exact steps on a slower processor.
use Rattle.std.specs.Prelude.{◌≡◌, ℕ, ◌+◌, ◌≤◌, Bool, List, ◌∷◌, ◌++◌, Some, None, Option}
use Rattle.std.specs.List.Sorted.{IsPermutation}
use Rattle.rows.specs.declared.frames.FrameNumbers.{FrameNumbers}
use Rattle.rows.specs.declared.tasks.Row.{Row}
use Rattle.bounds.specs.Meaning.{Meaning}
use Rattle.bounds.specs.Supplied.{linear_tail}
use Rattle.findings.specs.Exact.{exact_rest}
use Rattle.findings.specs.Findings.{row_finding}
use Rattle.findings.specs.Countable.{StandOn}
use Rattle.brackets.specs.Speeds.{is_rest_at_speed, rest_at_speed}

-- the first rest a comes no later than b: wherever there is a b, there is an a, and it is at most b
abbrev pub IsNoLater : Option ℕ → Option ℕ → Type 0
IsNoLater a None = Unit {0}
IsNoLater None (Some t) = ⊥
IsNoLater (Some s) (Some t) = s ≤ t

-- the row rests at t in exact steps on a processor of speed k / (k + 1)
abbrev pub is_slow_rest : ℕ → Row → List Row → ℕ → Bool
is_slow_rest k r above t = is_rest_at_speed k (k + 1) r above t

-- the first rest in exact steps at speed k / (k + 1)
abbrev pub slow_rest : ℕ → Row → List Row → Option ℕ
slow_rest k r above = rest_at_speed k (k + 1) r above

-- a first rest of a row by a bound of accuracy k, or none, lies between those in exact steps at
-- full speed and at speed k / (k + 1)
pub record LiesBetween (k : ℕ) (r : Row) (above : List Row) (bounded : Option ℕ) : Type 0 where
  -- a row that meets by the bound meets in exact steps, and its exact first rest is no later
  pub exact : IsNoLater (exact_rest r above) bounded
  -- where the row has a first rest in exact steps at speed k / (k + 1), it has one by the bound, and
  -- that is no later
  pub slow : IsNoLater bounded (slow_rest k r above)
  -- a row that misses by the bound misses at that speed
  pub misses : bounded ≡ None → slow_rest k r above ≡ None

-- every first rest by the bound lies so between two counts: of any row below any others that stand on a frame
abbrev pub Brackets : Meaning → Type 0
Brackets m =
    (h : FrameNumbers) (r : Row) (above : List Row) → StandOn h.ticks above
    → LiesBetween m.accuracy r above (row_finding m h r above).rest

-- what meets by a linear tail meets by every more accurate one, and rests no later
abbrev pub FinerIsNoLater : Type 0
FinerIsNoLater =
    (k k' : ℕ) (h : FrameNumbers) (r : Row) (above : List Row) → 1 ≤ k → k ≤ k' → StandOn h.ticks above
    → IsNoLater (row_finding (linear_tail k') h r above).rest
    (row_finding (linear_tail k) h r above).rest

-- a row that meets still meets, and rests no later, with a row above it taken away
abbrev pub FewerIsNoLater : Meaning → Type 0
FewerIsNoLater m =
    (h : FrameNumbers) (r x : Row) (xs ys : List Row)
    → IsNoLater (row_finding m h r (xs ++ ys)).rest (row_finding m h r (xs ++ x ∷ ys)).rest

-- the order of the rows above does not matter to a finding
abbrev pub OrderIsFree : Meaning → Type 0
OrderIsFree m =
    (h : FrameNumbers) (r : Row) (xs ys : List Row) → IsPermutation xs ys
    → row_finding m h r xs ≡ row_finding m h r ys
