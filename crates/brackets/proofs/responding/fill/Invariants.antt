use Rattle.std.proofs.Common.{◌≡◌, ◌-◌, ◌≤◌, length}
use Rattle.std.proofs.Math.Seq.{paste}
use Rattle.rows.specs.Lists.{StaysOutside}
use Rattle.brackets.specs.Responses.{responses_of}
use Rattle.brackets.proofs.responding.fill.Given as goal

-- so far the response times of the rows before i are in the list, and the places from i on stayed
abbrev pub invariant-loop-i : goal.invariant-loop-i
invariant-loop-i l = record {
  within : l.i ≤ length l.rows;
  put : l.list ≡ paste l.initial.list 0 (responses_of l.rows) (l.i - 0);
  stay : StaysOutside 0 l.i l.initial.list l.list;
}
