-- What a bound of some meaning answers.
use Rattle.std.specs.Prelude.{ℕ, ◌+◌, ◌-◌, None, Option, if◌then◌else◌}
use Rattle.rows.specs.declared.tasks.Row.{Row}
use Rattle.rows.specs.Times.{horizon}
use Rattle.bounds.specs.Instants.{least}
use Rattle.bounds.specs.Meaning.{Meaning, is_asked}

-- the amount that it answers: the meaning's, and 0 where it has nothing to answer
abbrev pub amount_answered : Meaning → ℕ → Row → ℕ → ℕ
amount_answered m h r t = if is_asked h r t then m.amount h r t else 0

-- the row's next corner after an instant: the least one, up to the horizon
abbrev pub corner_after : Meaning → Row → ℕ → Option ℕ
corner_after m r t = least (m.is_corner r) (horizon - t) (t + 1)

-- the next corner that it answers: none where it has nothing to answer
abbrev pub corner_answered : Meaning → ℕ → Row → ℕ → Option ℕ
corner_answered m h r t = if is_asked h r t then corner_after m r t else None
