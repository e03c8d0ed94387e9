use Rattle.std.proofs.Common.{◌∙◌}
use Rattle.std.proofs.lemmas.Result.{IfOk-weaker}
use Rattle.findings.specs.Lent.{lent_load, lent_window}
use Rattle.plots.proofs.Told.{all_told}
use Rattle.plots.proofs.Windows.{window_near}
use Rattle.plots.proofs.pictures.points.Goals as goal

pub returns : goal.returns
returns g c =
    let kept = c.in_ok-kept.ensures in
    let d = c.args.demand.now in
    let told = all_told (lent_load d) (lent_window d) c.in_ok-kept.kept (window_near d.row.now) kept.thinned.within in
    IfOk-weaker c.draw_points.result _ _
    (λ points drawn.
    record { kept = c.in_ok-kept.kept; thinned = kept.thinned; rising = kept.rising; drawn = drawn ∙ told })
    c.draw_points.ensures
