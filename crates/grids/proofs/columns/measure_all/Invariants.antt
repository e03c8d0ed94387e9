use Rattle.std.proofs.Common.{◌≡◌, ◌++◌, drop}
use Rattle.grids.specs.Columns.{columns_under}
use Rattle.grids.proofs.columns.measure_all.Given as goal

abbrev pub invariant-loop-place : goal.invariant-loop-place
invariant-loop-place l =
    l.all.items ++ columns_under (drop l.place l.headings) l.place l.rows ≡ columns_under l.headings 0 l.rows
