use Rattle.std.proofs.Common.{refl, subst}
use Rattle.writing.specs.States.{IsFinished}
use Rattle.writing.proofs.closed.ClosedLeaf.phase.Goals as goal

pub returns-clause-finished : goal.returns-clause-finished
returns-clause-finished c =
    subst IsFinished c.self.view_is
    (record { heading = c.self.inside.heading; rows = c.self.inside.rows; is = refl; few = c.self.invariant })
