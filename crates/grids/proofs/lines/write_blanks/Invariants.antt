use Rattle.std.proofs.Common.{◌≡◌, ◌++◌}
use Rattle.grids.specs.Aligned.{blanks}
use Rattle.grids.proofs.lines.write_blanks.Given as goal

abbrev pub invariant-loop : goal.invariant-loop
invariant-loop l = l.line.items ≡ l.initial.line.items ++ blanks l.counter
