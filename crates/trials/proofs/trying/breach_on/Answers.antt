use Rattle.std.proofs.Common.{sym}
use Rattle.trials.proofs.Tried.{instant_holds}
use Rattle.trials.proofs.trying.breach_on.Goals as goal

pub loop-at-preserved : goal.loop-at-preserved
loop-at-preserved g c =
    instant_holds (g.B.Bound.meaning c.args.bound.now) c.args.frame c.args.row.now c.loop-at.at c.loop-at.invariant
    (sym c.in_default.ensures)
