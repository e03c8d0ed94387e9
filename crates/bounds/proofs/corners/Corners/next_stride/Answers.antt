use Rattle.bounds.proofs.StairWalks.{stands_on, stands_coarser}
use Rattle.bounds.proofs.corners.Corners.next_stride.Goals as goal

pub returns-then-self : goal.returns-then-self
returns-then-self c =
    let w = c.args.self.now in
    stands_on w.accuracy w.low w.jobs w.stride w.stands c.if-self.true

pub returns-else-self : goal.returns-else-self
returns-else-self c =
    let w = c.args.self.now in
    stands_coarser w.accuracy w.low w.jobs w.stride w.stands c.if-self.false
