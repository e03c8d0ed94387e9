use Rattle.std.proofs.Common.{◌≡◌, ◌≤◌, ◌+◌, drop}
use Rattle.task_tables.specs.Lines.{ended_behind, ended_lines}
use Rattle.task_tables.proofs.lines.ended_lines.Given as goal

abbrev pub invariant-loop-byte : goal.invariant-loop-byte
invariant-loop-byte l =
    record {
      few : l.ended ≤ l.byte-index;
      count : l.ended + ended_behind l.previous (drop l.byte-index l.text) ≡ ended_lines l.text;
    }
