use Rattle.std.proofs.Common.{refl}
use Rattle.bounds.proofs.StairWalks.{corner_on}
use Rattle.bounds.proofs.corners.CornersWalk.go_on.Goals as goal

pub returns-clause-next : goal.returns-clause-next
returns-clause-next c =
    let w = c.args.self.now in
    corner_on w.accuracy w.low w.row.now w.jobs w.stride w.at _ w.stands w.there refl
