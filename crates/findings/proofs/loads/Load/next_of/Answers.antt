use Rattle.std.proofs.Common.{◌+◌, ◌∙◌, ap, unwrap_or, arith}
use Rattle.rows.specs.Times.{horizon}
use Rattle.findings.specs.Counting.{next_after}
use Rattle.findings.proofs.loads.Load.next_of.Goals as goal

pub listed : goal.listed
listed g c = omega (arith, c.args.self.now.kept.size, c.args.self.now.countable.few, c.requires)

pub returns : goal.returns
returns g c d =
    let m = g.B.Bound.meaning c.args.self.now.bound.now in
    let told = c.unwrap_or.ensures ∙ ap (λ o. unwrap_or o (horizon + 1)) c.corner_past-next.ensures in
    told ∙ ap (next_after m c.args.after)
    (c.args.self.now.kept.stand c.args.place c.index-self-place.result d c.requires).1
