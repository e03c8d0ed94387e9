-- The flags are set as far as the walk has come, and none of its instants stands between the flags and it.
use Rattle.std.proofs.Common.{◌≡◌, ℕ, ◌+◌, ◌-◌, ◌<◌, length, true, false}
use Rattle.bounds.specs.Marks.{up_to}
use Rattle.bounds.proofs.Marking.{Marked}
use Rattle.bounds.proofs.walks.mark_along.Given as goal

abbrev pub invariant-loop-place : goal.invariant-loop-place
invariant-loop-place g l =
    record {
      kind : g.W.Walk.kind l.walk ≡ g.W.Walk.kind l.initial.walk;
      here : g.W.Walk.here l.walk ≡ l.after + 1 + l.place;
      holds : g.W.Walk.kind l.initial.walk (g.W.Walk.here l.walk) ≡ true;
      marked : Marked (up_to l.last (g.W.Walk.kind l.initial.walk)) l.after
          (g.W.Walk.here l.walk) l.initial.marks l.marks;
      none : (i : ℕ) → l.after + length l.initial.marks < i → i < g.W.Walk.here l.walk
          → g.W.Walk.kind l.initial.walk i ≡ false;
    }

abbrev pub decreases-loop-place : goal.decreases-loop-place
decreases-loop-place g l = l.end - l.place
