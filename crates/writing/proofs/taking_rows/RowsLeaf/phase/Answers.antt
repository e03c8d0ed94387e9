use Rattle.std.proofs.Common.{refl, subst}
use Rattle.writing.specs.States.{IsInRows}
use Rattle.writing.proofs.taking_rows.RowsLeaf.phase.Goals as goal

pub returns-clause-rows : goal.returns-clause-rows
returns-clause-rows c =
    subst IsInRows c.self.view_is
    (record { heading = c.self.inside.heading; rows = c.self.inside.rows; is = refl; few = c.self.invariant })
