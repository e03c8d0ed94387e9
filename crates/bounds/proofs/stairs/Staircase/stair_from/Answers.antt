use Rattle.bounds.proofs.StairWalks.{lands_coarse, lands_fine, stands_few}
use Rattle.bounds.proofs.stairs.Staircase.stair_from.Goals as goal

pub returns-then-jobs-self-clause-stands : goal.returns-then-jobs-self-clause-stands
returns-then-jobs-self-clause-stands c =
    stands_few c.args.self.now.accuracy c.args.self.now.low c.args.jobs c.if-jobs-self.true

pub returns-then-stair-self-clause-stands : goal.returns-then-stair-self-clause-stands
returns-then-stair-self-clause-stands c =
    let s = c.args.self.now in
    lands_fine s.accuracy s.low c.args.jobs c.grain-grain.result c.round_up-stair.result c.if-jobs-self.false
    c.grain-grain.ensures c.round_up-stair.ensures c.if-stair-self.true

pub returns-else-stair-self-clause-stands : goal.returns-else-stair-self-clause-stands
returns-else-stair-self-clause-stands c =
    let s = c.args.self.now in
    lands_coarse s.accuracy s.low c.args.jobs c.grain-grain.result c.round_up-stair.result c.if-jobs-self.false
    c.grain-grain.ensures c.round_up-stair.ensures c.if-stair-self.false
