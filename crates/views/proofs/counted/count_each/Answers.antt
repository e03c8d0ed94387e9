use Rattle.filings.proofs.Named.{bound_passes}
use Rattle.views.proofs.counted.count_each.Goals as goal

pub bound_of-requires : goal.bound_of-requires
bound_of-requires g c = bound_passes c.args.bounds.now c.loop-bound.bound-index _ c.loop-bound-test.true c.requires
