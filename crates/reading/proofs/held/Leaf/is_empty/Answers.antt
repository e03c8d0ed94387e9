use Rattle.std.proofs.Common.{length, ap, ◌∙◌, arith}
use Rattle.reading.proofs.Ranks.{rows_length}
use Rattle.reading.proofs.held.Leaf.is_empty.Goals as goal

pub returns : goal.returns
returns c = λ held holds. let long = ap length holds.rows ∙ rows_length held.rows in grind arith
