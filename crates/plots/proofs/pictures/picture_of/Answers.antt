use Rattle.std.proofs.Common.{◌∙◌, ap, subst}
use Rattle.std.specs.List.{AllZip}
use Rattle.findings.specs.Findings.{load_finding}
use Rattle.plots.specs.Drawn.{drawn_bounded, drawn_exact, drawn_window}
use Rattle.plots.specs.Pictures.{IsBoundCurveOf, IsCurveOf}
use Rattle.plots.proofs.pictures.picture_of.Goals as goal

pub list_rests-requires : goal.list_rests-requires
list_rests-requires g c =
    let d = c.args.drawing.now in
    c.rest.ensures ∙ ap (λ f. f.rest) (c.finding-finding.ensures ∙ ap (load_finding (drawn_exact d)) d.same)

pub returns-clause-exact : goal.returns-clause-exact
returns-clause-exact g c =
    let d = c.args.drawing.now in
    let shown = subst (λ w. IsCurveOf (drawn_exact d) w 720 c.deref.result.now c.in_ok-curve_of.field-0) d.same
    c.in_ok-curve_of.ensures in
    subst (λ rests. IsCurveOf (drawn_exact d) (drawn_window d) 720 rests c.in_ok-curve_of.field-0)
    (c.deref.ensures.value ∙ c.in_ok-rests.ensures) shown

pub returns-clause-bounded : goal.returns-clause-bounded
returns-clause-bounded g c =
    let d = c.args.drawing.now in
    let curves = c.in_ok-bound_curves.field-0.items in
    subst (λ rests. AllZip (IsBoundCurveOf (drawn_window d) 720 rests) (drawn_bounded d) curves)
    (c.deref-2.ensures.value ∙ c.in_ok-rests.ensures) c.in_ok-bound_curves.ensures
