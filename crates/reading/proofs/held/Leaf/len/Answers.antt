use Rattle.std.proofs.Common.{length, ap, ◌∙◌, arith}
use Rattle.reading.proofs.Ranks.{rows_length}
use Rattle.reading.proofs.held.Leaf.len.Goals as goal

pub returns : goal.returns
returns c = λ held holds. omega (arith, ap length holds.rows ∙ rows_length held.rows)
