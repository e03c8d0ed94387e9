use Rattle.std.proofs.Common.{[], ◌∷◌, refl}
use Rattle.rows.proofs.SameRow.{same_rows}
use Rattle.worked.specs.Table.{row_a, row_b, row_e}
use Rattle.worked.proofs.table.worked_rows.Goals as goal

pub returns-clause-answered : goal.returns-clause-answered
returns-clause-answered c = same_rows _ (row_a ∷ row_b ∷ row_e ∷ []) refl
