-- The response times of a whole table, with no frame.
use Rattle.std.specs.Prelude.{◌≡◌, ℕ, List, [], ◌∷◌, ◌++◌, length, Option}
use Rattle.rows.specs.declared.tasks.Numbers.{Numbers}
use Rattle.rows.specs.declared.tasks.Row.{Row}
use Rattle.rows.specs.Answers.{Check}
use Rattle.rows.specs.Judging.{row_flaws, table_flaw_checks}
use Rattle.findings.specs.Asking.{size_checks}
use Rattle.findings.specs.Exact.{response, Responds}
use Rattle.brackets.specs.Speeds.{IsExactOnFrames}

-- the response times of rows that stand in rank order below others: each row's, below those and the rows before it
abbrev pub responses_below : List Row → List Row → List (Option ℕ)
responses_below above [] = []
responses_below above (r ∷ rows) = response r above ∷ responses_below (above ++ r ∷ []) rows

-- the response times of a table in rank order: each row's, below the rows before it
abbrev pub responses_of : List Row → List (Option ℕ)
responses_of rows = responses_below [] rows

-- of every row of the table the response time says what a response time says, and is the exact one on every frame
abbrev pub TableResponds : List Row → Type 0
TableResponds rows =
    (xs ys : List Row) (r : Row) → rows ≡ xs ++ r ∷ ys
    → Responds r xs (response r xs) × IsExactOnFrames r xs (response r xs)

-- what is checked of a table whose response times are to be put into a list of so many places, in order: full table and
-- short list; then idle row, no window, late deadline and long period, each at every rank before the next, with the
-- smallest rank concerned
abbrev pub response_checks : List Numbers → ℕ → List Check
response_checks table places = size_checks (length table) places ++ table_flaw_checks row_flaws table
