-- Jobs counted in batches: a bound that is brought to the toolkit.
use Rattle.std.specs.Prelude.{ℕ, ◌+◌, ◌*◌, nat_lt, if◌then◌else◌}
use Rattle.rows.specs.declared.tasks.Row.{Row}
use Rattle.rows.specs.Times.{horizon, ceiling}
use Rattle.rows.specs.Counting.{is_rise}
use Rattle.bounds.specs.Meaning.{Meaning}

-- the two numbers that fix such a bound: its accuracy, and how many jobs a batch has
pub record Parameters : Type 0 where
  pub accuracy : ℕ
  pub size : ℕ

-- the two numbers, written out
abbrev pub parameters : ℕ → ℕ → Parameters
parameters k g = record { accuracy = k; size = g }

-- how many jobs are counted for n jobs: n itself while they do not fill as many batches as the accuracy says, and
-- from there on n rounded up to whole batches
abbrev pub batch_count : Parameters → ℕ → ℕ
batch_count p n = if nat_lt n (p.accuracy * p.size) then n else ceiling n p.size * p.size

-- the most jobs of a row that can ask for work from the moment that it is ready to t
abbrev pub job_count : Row → ℕ → ℕ
job_count r t = ceiling (t + r.jitter) r.period

-- the bound: every job that is counted asks for the row's work, and the corners are where exact steps rise
abbrev pub batches : Parameters → Meaning
batches p = record {
  amount = λ h r t. h * (r.work * batch_count p (job_count r t));
  is_corner = is_rise;
  accuracy = p.accuracy;
  most = horizon;
}
