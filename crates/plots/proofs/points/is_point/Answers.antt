use Rattle.std.proofs.Common.{◌≡◌, leb, false, sym, ◌∙◌, arith}
use Rattle.plots.proofs.Walk.{none_at_start}
use Rattle.plots.proofs.Windows.{window_some}
use Rattle.plots.proofs.points.is_point.Goals as goal

pub returns-else-at-ge1 : goal.returns-else-at-ge1
returns-else-at-ge1 g c =
    let d = c.args.demand.now in
    let none = none_at_start _ d.above.now.rows _ c.args.at (g.met.B.Bound.lawful d.bound.now)
    (window_some d.row.now) c.if-at-ge1.false in
    let early : leb 1 c.args.at ≡ false = grind (arith, c.if-at-ge1.false) in
    early ∙ sym none
