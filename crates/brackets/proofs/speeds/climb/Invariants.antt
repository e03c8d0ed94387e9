use Rattle.std.proofs.Common.{◌+◌, ◌-◌, ◌≤◌}
use Rattle.brackets.proofs.Climbing.{RestsNowhereBefore}
use Rattle.brackets.proofs.speeds.climb.Given as goal

-- before `at` the row rests nowhere at the lower speed
abbrev pub invariant-loop-at : goal.invariant-loop-at
invariant-loop-at l =
    record { some : 1 ≤ l.at; none : RestsNowhereBefore l.speed.served l.speed.within l.row l.above l.at }

abbrev pub decreases-loop-at : goal.decreases-loop-at
decreases-loop-at l = l.last + 1 - l.at
