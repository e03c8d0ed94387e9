use Rattle.std.proofs.Common.{◌≡◌, map, take}
use Rattle.rows.specs.Found.{tells}
use Rattle.views.specs.Counted.{by_bounds}
use Rattle.views.specs.Printed.{found_at}
use Rattle.views.proofs.counted.Counted.bounded_at.Given as goal

-- what the counts seen found is there
abbrev pub invariant-loop-filing : goal.invariant-loop-filing
invariant-loop-filing l = map tells l.found.items ≡ found_at l.i (take l.filing-index (by_bounds l.self))
