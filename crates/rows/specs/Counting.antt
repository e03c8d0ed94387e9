-- A row in time: where it stands, its window, and its demand counted exactly.
use Rattle.std.specs.Prelude.{IsTrue, ◌≡◌, ℕ, ◌+◌, ◌-◌, ◌*◌, ◌%◌, ◌<◌, ◌≤◌, Bool, false, ◌&&◌, ◌==◌, nat_le}
use Rattle.rows.specs.declared.tasks.Row.{Row}
use Rattle.rows.specs.Times.{ceiling}

-- a row stands on a frame when its period divides it
abbrev pub is_on_frame : ℕ → Row → Bool
is_on_frame h r = h % r.period == 0

-- the window of a row: its deadline less its jitter, the time left once it is ready
abbrev pub window : Row → ℕ
window r = r.deadline - r.jitter

-- exact steps: the request bound function of a row with release jitter, the most work that its
-- jobs can ask for from the moment that it is ready to t
abbrev pub steps : Row → ℕ → ℕ
steps r t = r.work * ceiling (t + r.jitter) r.period

-- s is the work of as many jobs as it takes periods to cover t + jitter, and no more
pub record CountsJobs (r : Row) (t s : ℕ) : Type 0 where
  pub jobs : ℕ
  pub work : s ≡ r.work * jobs
  pub cover : t + r.jitter ≤ jobs * r.period
  pub tight : jobs * r.period < t + r.jitter + r.period

-- t is b × period − jitter for some b ≥ 1: just after it the steps rise
abbrev pub is_rise : Row → ℕ → Bool
is_rise r t = nat_le 1 t && (t + r.jitter) % r.period == 0

-- when the steps of a row rise, and by how much
pub record StepsRise (r : Row) : Type 0 where
  -- the rises are the instants b × period − jitter, for every b from 1 on, and no others
  pub multiple : (t : ℕ) → IsTrue (is_rise r t) → (b : ℕ) × (1 ≤ b) × (t + r.jitter ≡ b * r.period)
  pub every : (t b : ℕ) → 1 ≤ b → t + r.jitter ≡ b * r.period → IsTrue (is_rise r t)
  -- after a rise the steps have grown by the work of one job, and after any other instant from 1 on they are the same
  pub up : (t : ℕ) → IsTrue (is_rise r t) → steps r (t + 1) ≡ steps r t + r.work
  pub level : (t : ℕ) → 1 ≤ t → is_rise r t ≡ false → steps r (t + 1) ≡ steps r t
