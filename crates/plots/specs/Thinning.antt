-- How a long window is thinned for a picture.
use Rattle.std.specs.Prelude.{IsTrue, ℕ, ◌+◌, ◌-◌, ◌*◌, ◌<◌, ◌≤◌, Bool, List, length, EachIndex, slice_index}
use Rattle.std.specs.Ordering.{nat_cmp}
use Rattle.std.specs.BTreeSet.{BTreeSet, btree_set_len, contains}
use Rattle.rows.specs.Times.{ceiling}
use Rattle.bounds.specs.Instants.{IsFirst}

-- an instant is among those that are drawn
abbrev pub Draws : BTreeSet ℕ → ℕ → Type 0
Draws kept t = IsTrue (contains nat_cmp kept t)

-- every instant that is drawn lies in the window
abbrev pub DrawsWithin : ℕ → BTreeSet ℕ → Type 0
DrawsWithin window kept = (t : ℕ) → Draws kept t → (1 ≤ t) × (t ≤ window)

-- what was drawn still is
abbrev pub DrawsMore : BTreeSet ℕ → BTreeSet ℕ → Type 0
DrawsMore old new = (t : ℕ) → Draws old t → Draws new t

-- of the columns before one, each of which has so many instants, the first test point in each that has one is drawn
abbrev pub DrawsColumns : (ℕ → Bool) → ℕ → ℕ → ℕ → BTreeSet ℕ → Type 0
DrawsColumns tested window width columns kept =
    (k t : ℕ) → k < columns → IsFirst tested (k * width) window t → t ≤ k * width + width → Draws kept t

-- of a first rest that lies in the window, what decides about it is drawn
pub record DrawsRest (tested : ℕ → Bool) (window rest : ℕ) (kept : BTreeSet ℕ) : Type 0 where
  -- the first rest itself
  pub itself : 1 ≤ rest → rest ≤ window → Draws kept rest
  -- the instant before it, at which the row does not rest
  pub before : 2 ≤ rest → rest ≤ window → Draws kept (rest - 1)
  -- the first test point from it on, at which testing stops
  pub stop : (t : ℕ) → 1 ≤ rest → IsFirst tested (rest - 1) window t → Draws kept t

-- a window is thinned to so many columns without losing what decides
pub record IsThinned (tested : ℕ → Bool) (window columns : ℕ) (rests : List ℕ) (kept : BTreeSet ℕ) : Type 0 where
  -- nothing outside the window is drawn, and its end is
  pub within : DrawsWithin window kept
  pub end : Draws kept window
  -- of each column the first test point is drawn
  pub firsts : DrawsColumns tested window (ceiling window columns) columns kept
  -- of a window that is no longer than there are columns, every test point is
  pub whole : window ≤ columns → (t : ℕ) → 1 ≤ t → t ≤ window → IsTrue (tested t) → Draws kept t
  -- what decides about each first rest is drawn
  pub decided : EachIndex rests (λ k. DrawsRest tested window (slice_index rests k) kept)
  -- the instants drawn are few enough for a picture
  pub few : btree_set_len kept ≤ columns + 3 * length rests + 1
