-- The flags are set as far as the corners were asked for.
use Rattle.std.proofs.Common.{◌+◌, ◌-◌, ◌≤◌, length}
use Rattle.rows.specs.Times.{horizon}
use Rattle.bounds.specs.Marks.{up_to}
use Rattle.bounds.proofs.Marking.{Marked}
use Rattle.bounds.proofs.interface.Bound.mark.Given as goal

abbrev pub invariant-loop-at : goal.invariant-loop-at
invariant-loop-at g l =
    record {
      from : l.after ≤ l.seen;
      within : l.seen ≤ l.after + length l.initial.marks;
      marked : Marked (up_to horizon ((g.Self.Bound.meaning l.self).is_corner l.row)) l.after
          (l.seen + 1) l.initial.marks l.marks;
    }

abbrev pub decreases-loop-at : goal.decreases-loop-at
decreases-loop-at g l = horizon - l.seen
