-- What is answered to the two numbers of such a bound, and what a caller may know of it as a value.
use Rattle.std.specs.Prelude.{ℕ, Bool, ◌&&◌, Ok, Err, Result, nat_le, if◌then◌else◌}
use Rattle.rows.specs.declared.refusals.Refusal.{Refusal}
use Rattle.rows.specs.declared.refusals.Refusal.TheVariants.{BadAccuracy}
use Rattle.rows.specs.Times.{horizon}
use Rattle.bounds.specs.Meaning.{is_accuracy}
use Rattle.batches.specs.declared.Batches.{Batches}
use Rattle.batches.specs.declared.errors.BatchError.{BatchError}
use Rattle.batches.specs.declared.errors.BatchError.TheVariants.{Refused, BadSize}
use Rattle.batches.specs.Batching.{Parameters, parameters}

-- the two numbers of a bound that is made
abbrev pub parameters_of : Batches → Parameters
parameters_of b = parameters b.accuracy b.size

-- a batch has at least one job, and at most as many as the horizon has ticks
abbrev pub is_size : ℕ → Bool
is_size g = nat_le 1 g && nat_le g horizon

-- what making the bound answers: the bound of two numbers; a refusal and the position that it tells; or the size of a
-- batch that none can have
pub data Outcome : Type 0 where
  makes : Parameters → Outcome
  refuses : Refusal → ℕ → Outcome
  denies : ℕ → Outcome

-- what a result answers
abbrev pub outcome_of : Result Batches BatchError → Outcome
outcome_of (Ok b) = makes (parameters_of b)
outcome_of (Err (Refused f)) = refuses f.refusal f.at
outcome_of (Err (BadSize g)) = denies g

-- what is answered to an accuracy and a size of a batch: the accuracy is checked first
abbrev pub outcome_for : ℕ → ℕ → Outcome
outcome_for k g =
    if is_accuracy k then (if is_size g then makes (parameters k g) else denies g) else refuses BadAccuracy 0
