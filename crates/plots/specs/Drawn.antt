-- What a picture is drawn of, as its callers see it.
use Rattle.std.specs.Prelude.{ℕ, List, ◌∷◌, map}
use Rattle.std.specs.List.{filter_map}
use Rattle.rows.specs.declared.tasks.Row.{Row}
use Rattle.rows.specs.Counting.{window}
use Rattle.findings.specs.Demand.{Load, load}
use Rattle.findings.specs.Findings.{load_finding}
use Rattle.findings.specs.Lent.{lent_load}
use Rattle.plots.specs.declared.questions.Drawing.{Drawing}
use Rattle.plots.specs.declared.questions.Named.{Named}

-- the rank that is shown
abbrev pub drawn_rank : {B : Type 0} {g : _} → Drawing B g → ℕ
drawn_rank d = d.rank

-- the name of the task, in bytes
abbrev pub drawn_task : {B : Type 0} {g : _} → Drawing B g → List ℕ
drawn_task d = d.task.now

-- the row
abbrev pub drawn_row : {B : Type 0} {g : _} → Drawing B g → Row
drawn_row d = d.row.now

-- the window of the row
abbrev pub drawn_window : {B : Type 0} {g : _} → Drawing B g → ℕ
drawn_window d = window d.row.now

-- the load whose demand is drawn in exact steps
abbrev pub drawn_exact : {B : Type 0} {g : _} → Drawing B g → Load
drawn_exact d = lent_load d.exact

-- that of the same row by a bound
abbrev pub load_by : {B : Type 0} {g : _} → Drawing B g → Named B → Load
load_by {g = g} d n = load (g.meaning n.bound.now) d.above.now.frame.ticks d.row.now.work d.above.now.rows

-- the loads whose demand is drawn by the bounds, in the order of these
abbrev pub drawn_bounded : {B : Type 0} {g : _} → Drawing B g → List Load
drawn_bounded d = map (load_by d) d.bounds.now

-- the first rests that there are, in exact steps and then by each bound
abbrev pub drawn_rests : {B : Type 0} {g : _} → Drawing B g → List ℕ
drawn_rests d = filter_map (λ l. (load_finding l (drawn_window d)).rest) (drawn_exact d ∷ drawn_bounded d)
