-- What the supplied bounds mean: exact steps, the linear tail and the staircase.
use Rattle.std.specs.Prelude.{ℕ, ◌+◌, ◌-◌, ◌*◌, ◌/◌, ◌&&◌}
use Rattle.rows.specs.declared.tasks.Row.{Row}
use Rattle.rows.specs.Times.{horizon}
use Rattle.rows.specs.Counting.{steps, is_rise}
use Rattle.bounds.specs.Meaning.{Meaning, finest}
use Rattle.bounds.specs.Stairs.{is_stair, jobs_until, rounded}
use Rattle.bounds.specs.Tails.{Shape, tail}

-- the exact steps, in parts
abbrev pub exact_steps : Meaning
exact_steps = record { amount = λ h r t. h * steps r t; is_corner = is_rise; accuracy = finest; most = horizon }

-- a straight line that lies on or above the steps of a row
abbrev pub line : ℕ → Row → ℕ → ℕ
line h r t = h * r.work + (t + r.jitter) * r.work * (h / r.period)

-- the shape of the linear tail of accuracy k: the line, past k − 1 exact releases
abbrev pub line_shape : ℕ → Shape
line_shape k = record { late = line; accuracy = k; exact = k - 1 }

-- the linear tail of accuracy k: exact for k − 1 releases, then the line
abbrev pub linear_tail : ℕ → Meaning
linear_tail k = tail (line_shape k)

-- the staircase of accuracy k: as many whole steps as jobs are counted, with a corner at each rise of a number of jobs
-- that is a stair
abbrev pub staircase : ℕ → Meaning
staircase k = record {
  amount = λ h r t. h * (r.work * rounded k (jobs_until r t));
  is_corner = λ r t. is_rise r t && is_stair k (jobs_until r t);
  accuracy = k;
  most = 26 * k;
}
