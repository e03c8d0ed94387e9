use Rattle.std.proofs.Common.{◌≡◌, drop, max}
use Rattle.grids.specs.Columns.{widest}
use Rattle.grids.proofs.columns.widest_at.Given as goal

-- what the rows before have, with what those from here on have, is what all have
abbrev pub invariant-loop-row : goal.invariant-loop-row
invariant-loop-row l = max l.wide (widest l.place (drop l.row-index l.rows)) ≡ widest l.place l.rows
