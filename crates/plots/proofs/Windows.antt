-- How long the window of a row can be.
use Rattle.std.proofs.Common.{◌≤◌, arith}
use Rattle.rows.specs.declared.tasks.Row.{Row}
use Rattle.rows.specs.Counting.{window}
use Rattle.rows.specs.Times.{horizon}

-- it has an instant
pub window_some : (r : Row) → 1 ≤ window r
window_some r = omega (arith, r.busy, r.roomy)

-- and none past the horizon
pub window_near : (r : Row) → window r ≤ horizon
window_near r = omega (arith, r.timely, r.near)
