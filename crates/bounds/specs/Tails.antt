-- Bounds that are exact up to some number of releases, and something of their own from there on.
use Rattle.std.specs.Prelude.{IsTrue, ℕ, Bool, ◌+◌, ◌-◌, ◌*◌, ◌<◌, ◌≤◌, ◌&&◌, nat_le, if◌then◌else◌}
use Rattle.rows.specs.declared.tasks.Row.{Row}
use Rattle.rows.specs.Times.{horizon}
use Rattle.rows.specs.Counting.{steps, is_rise}
use Rattle.bounds.specs.declared.questions.Asked.{Asked}
use Rattle.bounds.specs.Meaning.{Meaning, finest, is_asked}
use Rattle.bounds.specs.Questions.{asked_at, asked_frame, asked_row}

-- what makes such a bound
pub record Shape : Type 0 where
  -- at a frame, the amount of a row at an instant past its exact releases, in parts
  pub late : ℕ → Row → ℕ → ℕ
  -- the accuracy
  pub accuracy : ℕ
  -- how many releases of each row are counted exactly
  pub exact : ℕ

-- t is not past n releases of the row: so many periods cover t + jitter
abbrev pub is_exact : ℕ → Row → ℕ → Bool
is_exact n r t = nat_le (t + r.jitter) (n * r.period)

-- the bound of a shape: exact steps up to its exact releases, with a corner at each of their rises, and past them the
-- late amount, with no corner
abbrev pub tail : Shape → Meaning
tail s = record {
  amount = λ h r t. if is_exact s.exact r t then h * steps r t else s.late h r t;
  is_corner = λ r t. is_rise r t && is_exact s.exact r t;
  accuracy = s.accuracy;
  most = s.exact;
}

-- the late amount that a question asks for
abbrev pub late_asked : Shape → Asked → ℕ
late_asked s q = s.late (asked_frame q) (asked_row q) (asked_at q)

-- t is past the exact releases of the row
abbrev pub IsLate : Shape → Row → ℕ → Type 0
IsLate s r t = s.exact * r.period < t + r.jitter

-- what the late part of a bound owes, at every frame, of every row on it, at every instant up to the horizon
pub record LateLaws (s : Shape) : Type 0 where
  -- the late amount is nowhere below the exact steps, before the exact releases are over neither
  pub covers : (h : ℕ) (r : Row) (t : ℕ) → IsTrue (is_asked h r t) → h * steps r t ≤ s.late h r t
  -- past them it is at most (k + 1) / k times the exact steps, k the accuracy
  pub close : (h : ℕ) (r : Row) (t : ℕ) → IsTrue (is_asked h r t) → IsLate s r t
      → s.accuracy * s.late h r t ≤ (s.accuracy + 1) * (h * steps r t)
  -- the accuracy runs from 1 to the greatest
  pub some_accuracy : 1 ≤ s.accuracy
  pub most_accuracy : s.accuracy ≤ finest
  -- past them it does not bend upward
  pub bends : (h : ℕ) (r : Row) (t : ℕ) → IsTrue (is_asked h r t) → 1 ≤ t → t < horizon → IsLate s r t
      → s.late h r (t - 1) + s.late h r (t + 1) ≤ 2 * s.late h r t
