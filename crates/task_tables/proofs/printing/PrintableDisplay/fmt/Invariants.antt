use Rattle.std.proofs.Common.{◌≡◌, ℕ, List, ◌++◌}
use Rattle.std.specs.Fmt.{HasWritten, IsPlainFormatter}
use Rattle.task_tables.specs.Printables.{printable_text}
use Rattle.task_tables.proofs.printing.PrintableDisplay.fmt.Given as goal

abbrev pub invariant-loop-character : goal.invariant-loop-character
invariant-loop-character g l =
    (seen : List ℕ) × (printable_text l.self.0.now ≡ seen ++ printable_text l.character-iterator.rest.now)
    × (IsPlainFormatter l.initial.f → HasWritten g.W.Write.write_str_gives l.initial.f seen l.f)
