use Rattle.std.proofs.Common.{◌≡◌, Bor, List, ℕ, ◌+◌, drop, map}
use Rattle.task_tables.specs.Rows.{row_at}
use Rattle.task_tables.specs.Told.{fields_told, misfit_told}
use Rattle.task_tables.proofs.tasks.misread.Given as goal

abbrev pub invariant-loop-index : goal.invariant-loop-index
invariant-loop-index l =
    misfit_told l.columns (row_at l.line l.fields)
    ≡ fields_told l.columns (row_at l.line l.fields) (l.index + 1) (drop l.index l.columns)
    (map (λ (f : Bor (List ℕ)). f.now) (drop l.index l.fields))
