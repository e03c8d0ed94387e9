use Rattle.std.proofs.Common.{◌≡◌, ◌+◌, drop, false}
use Rattle.task_tables.specs.Lines.{passed_over}
use Rattle.task_tables.proofs.lines.passed_over.Given as goal

abbrev pub invariant-loop-place : goal.invariant-loop-place
invariant-loop-place l = l.place + passed_over l.in_comment (drop l.place l.text) ≡ passed_over false l.text
