-- The demand of a row as it is lent to be read.
use Rattle.std.specs.Prelude.{ℕ, ◌≤◌, Bool, ◌&&◌, Some, None, Option, MatchOption, nat_le, if◌then◌else◌}
use Rattle.rows.specs.Counting.{window}
use Rattle.rows.specs.Times.{horizon}
use Rattle.bounds.specs.Instants.{IsFirst}
use Rattle.findings.specs.declared.questions.Demand.{Demand}
use Rattle.findings.specs.Demand.{Load, load, demand, is_rest}
use Rattle.findings.specs.Findings.{is_tested}

-- the load whose demand is read
abbrev pub lent_load : {B : Type 0} {g : _} → Demand B g → Load
lent_load {g = g} d = load (g.meaning d.bound.now) d.above.now.frame.ticks d.row.now.work d.above.now.rows

-- the window of its row
abbrev pub lent_window : {B : Type 0} {g : _} → Demand B g → ℕ
lent_window d = window d.row.now

-- the demand up to t that is told: none past the horizon
abbrev pub demand_told : Load → ℕ → Option ℕ
demand_told l t = if nat_le t horizon then Some (demand l t) else None

-- the row rests at t, up to the horizon
abbrev pub rest_told : Load → ℕ → Bool
rest_told l t = nat_le t horizon && is_rest l t

-- o is the first test point after an instant, where the row may rest up to last; there is none from last on
abbrev pub IsNextPoint : Load → ℕ → ℕ → Option ℕ → Type 0
IsNextPoint l last after o = MatchOption o (last ≤ after) (IsFirst (is_tested l last) after last)
