use Rattle.bounds.proofs.StairWalks.{corner_here}
use Rattle.bounds.proofs.corners.CornersWalk.at.Goals as goal

pub returns-clause-kind : goal.returns-clause-kind
returns-clause-kind c =
    let w = c.args.self.now in
    corner_here w.accuracy w.row.now w.jobs w.at w.some w.stands.stair w.there
