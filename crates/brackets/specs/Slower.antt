-- The first rest on a slower processor, asked for: when that is refused, and what it says.
use Rattle.std.specs.Prelude.{◌≡◌, ℕ, ◌≤◌, false, List, ◌++◌, Option, MatchOption}
use Rattle.rows.specs.declared.frames.FrameNumbers.{FrameNumbers}
use Rattle.rows.specs.declared.tasks.Row.{Row}
use Rattle.rows.specs.Answers.{Check}
use Rattle.rows.specs.Counting.{window}
use Rattle.bounds.specs.Instants.{IsFirst}
use Rattle.bounds.specs.Laws.{Laws}
use Rattle.bounds.specs.Meaning.{Meaning, accuracy_checks}
use Rattle.findings.specs.Asking.{above_checks}
use Rattle.findings.specs.Countable.{StandOn}
use Rattle.findings.specs.Findings.{row_finding}
use Rattle.brackets.specs.Bracketing.{IsNoLater, is_slow_rest}

-- what is checked of the question, in order: bad accuracy; full table
abbrev pub slow_checks : ℕ → List Row → List Check
slow_checks k above = accuracy_checks k ++ above_checks above

-- a first rest at speed k / (k + 1) is an instant from 1 to the window at which the row rests at
-- that speed, and no earlier one is; without one, the row rests at none of them
abbrev pub IsFirstSlowRest : ℕ → Row → List Row → Option ℕ → Type 0
IsFirstSlowRest k r above o =
    MatchOption o ((t : ℕ) → 1 ≤ t → t ≤ window r → is_slow_rest k r above t ≡ false)
    (IsFirst (is_slow_rest k r above) 0 (window r))

-- by every bound of accuracy k that shows the laws, and on every frame that the rows above stand
-- on, the row rests no later than o
abbrev pub BoundsAreNoLater : ℕ → Row → List Row → Option ℕ → Type 0
BoundsAreNoLater k r above o =
    (m : Meaning) (h : FrameNumbers) → Laws m → m.accuracy ≡ k → StandOn h.ticks above
    → IsNoLater (row_finding m h r above).rest o
