use Rattle.findings.proofs.preparing.Prepared.keep.Goals as goal

pub loop-place-init : goal.loop-place-init
loop-place-init g c = c.requires.none (g.B.Bound.meaning c.args.bound.now) c.args.frame.now.ticks
