use Rattle.std.proofs.Common.{◌+◌, ◌++◌, ◌∷◌, [], map, take, sym, subst}
use Rattle.std.specs.List.{AllZip}
use Rattle.findings.specs.Lent.{lent_load}
use Rattle.plots.specs.Drawn.{drawn_window, load_by}
use Rattle.plots.specs.Pictures.{IsBoundCurveOf}
use Rattle.plots.proofs.Bounds.{zipped_more}
use Rattle.plots.proofs.pictures.bound_curves.Goals as goal

pub loop-named-preserved : goal.loop-named-preserved
loop-named-preserved g c =
    let d = c.args.drawing.now in
    let rests = c.args.rests.now in
    let named = c.named-item.result in
    let index = c.loop-named.named-index in
    let demand = c.demand-demand.result in
    let made = c.in_ok-bound_curve_of.field-0 in
    let here = subst (λ w. IsBoundCurveOf w 720 rests (lent_load demand) made) c.demand-demand.ensures.window
    c.in_ok-bound_curve_of.ensures in
    let one = subst (λ l. IsBoundCurveOf (drawn_window d) 720 rests l made) c.demand-demand.ensures.load here in
    subst (AllZip (IsBoundCurveOf (drawn_window d) 720 rests) (map (load_by d) (take (index + 1) d.bounds.now)))
    {x = c.loop-named.curves.items ++ made ∷ []} (sym c.in_ok-push.ensures.items)
    (zipped_more (IsBoundCurveOf (drawn_window d) 720 rests) (load_by d) d.bounds.now index named
    c.loop-named.curves.items made c.loop-named-test.true c.named-item.is c.loop-named.invariant one)
