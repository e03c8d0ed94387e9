-- A row counted in two ways, and the accuracies by which it meets.
use Rattle.std.specs.Prelude.{◌≡◌, ℕ, ◌-◌, ◌≤◌, Bool, false, List, is_some, Some, None, Option, nat_le}
use Rattle.rows.specs.declared.frames.FrameNumbers.{FrameNumbers}
use Rattle.rows.specs.declared.tasks.Row.{Row}
use Rattle.bounds.specs.Meaning.{Meaning, finest}
use Rattle.bounds.specs.Supplied.{exact_steps, linear_tail}
use Rattle.rows.specs.Found.{Found, tells}
use Rattle.findings.specs.Findings.{row_finding}
use Rattle.brackets.specs.declared.counting.Counts.{Counts}

-- what two counts tell, in numbers: the finding in exact steps, and that by a bound
abbrev pub both_found : Counts → Found × Found
both_found c = (tells c.exact, tells c.bounded)

-- the two findings about a row below others, at a frame: in exact steps, and by a bound
abbrev pub row_counts : Meaning → FrameNumbers → Row → List Row → Found × Found
row_counts m h r above = (row_finding exact_steps h r above, row_finding m h r above)

-- how much later the first rest b comes than a, where there are both
abbrev pub gap : Option ℕ → Option ℕ → Option ℕ
gap (Some a) (Some b) = Some (b - a)
gap (Some a) None = None
gap None b = None

-- the row meets by the linear tail of accuracy k
abbrev pub has_rest_by : FrameNumbers → Row → List Row → ℕ → Bool
has_rest_by h r above k = is_some (row_finding (linear_tail k) h r above).rest

-- of all accuracies the row meets by those that are not below a; without an a, by none
abbrev pub MeetsFrom : FrameNumbers → Row → List Row → Option ℕ → Type 0
MeetsFrom h r above (Some a) = (k : ℕ) → 1 ≤ k → k ≤ finest → has_rest_by h r above k ≡ nat_le a k
MeetsFrom h r above None = (k : ℕ) → 1 ≤ k → k ≤ finest → has_rest_by h r above k ≡ false
