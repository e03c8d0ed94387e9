-- The laws that every bound shows.
use Rattle.std.specs.Prelude.{IsTrue, ◌≡◌, ℕ, ◌+◌, ◌-◌, ◌*◌, ◌<◌, ◌≤◌, false}
use Rattle.rows.specs.declared.tasks.Row.{Row}
use Rattle.rows.specs.Times.{horizon}
use Rattle.rows.specs.Counting.{steps}
use Rattle.bounds.specs.Instants.{count}
use Rattle.bounds.specs.Meaning.{Meaning, finest, is_asked}

-- a meaning shows the laws: at every frame, of every row on it, at every instant up to the horizon
pub record Laws (m : Meaning) : Type 0 where
  -- the amount is nowhere below the exact steps
  pub covers : (h : ℕ) (r : Row) (t : ℕ) → IsTrue (is_asked h r t) → h * steps r t ≤ m.amount h r t
  -- the amount is at most (k + 1) / k times the exact steps, k the accuracy
  pub close : (h : ℕ) (r : Row) (t : ℕ) → IsTrue (is_asked h r t)
      → m.accuracy * m.amount h r t ≤ (m.accuracy + 1) * (h * steps r t)
  -- the accuracy runs from 1 to the greatest
  pub some_accuracy : 1 ≤ m.accuracy
  pub most_accuracy : m.accuracy ≤ finest
  -- between corners the amount does not bend upward
  pub bends : (h : ℕ) (r : Row) (t : ℕ) → IsTrue (is_asked h r t) → 1 ≤ t → t < horizon → m.is_corner r t ≡ false
      → m.amount h r (t - 1) + m.amount h r (t + 1) ≤ 2 * m.amount h r t
  -- 0 is no corner
  pub starts : (r : Row) → m.is_corner r 0 ≡ false
  -- up to the horizon there are at most `most` corners
  pub few : (r : Row) → count (m.is_corner r) horizon ≤ m.most
