-- What a caller may know of the supplied bounds as values.
use Rattle.std.specs.Prelude.{ℕ}
use Rattle.bounds.specs.declared.linear.Line.{Line}
use Rattle.bounds.specs.declared.stairs.Staircase.{Staircase}
use Rattle.bounds.specs.declared.tails.Tail.{Tail}
use Rattle.bounds.specs.declared.supplied.Supplied.{Supplied}
use Rattle.bounds.specs.declared.supplied.Supplied.TheVariants.{ExactSteps as exact, LinearTail as tail}
use Rattle.bounds.specs.declared.supplied.Supplied.TheVariants.{Staircase as stairs}
use Rattle.bounds.specs.Meaning.{Meaning}
use Rattle.bounds.specs.Supplied.{exact_steps, linear_tail, staircase}

-- the accuracy of a line
abbrev pub accuracy_of_line : Line → ℕ
accuracy_of_line l = l.accuracy

-- the accuracy of a linear tail
abbrev pub accuracy_of : Tail Line → ℕ
accuracy_of t = accuracy_of_line t.late

-- the accuracy of a staircase
abbrev pub accuracy_of_stairs : Staircase → ℕ
accuracy_of_stairs s = s.accuracy

-- what a supplied bound means
abbrev pub meaning_of : Supplied → Meaning
meaning_of exact = exact_steps
meaning_of (tail t) = linear_tail (accuracy_of t)
meaning_of (stairs s) = staircase (accuracy_of_stairs s)
