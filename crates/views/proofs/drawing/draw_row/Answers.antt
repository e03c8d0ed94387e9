use Rattle.std.proofs.Common.{ap, map, ◌∙◌}
use Rattle.bounds.specs.Families.{supplied_plain}
use Rattle.views.proofs.Counts.{named_back}
use Rattle.views.proofs.drawing.draw_row.Goals as goal

pub drawing_of-drawing-requires-clause-bounds : goal.drawing_of-drawing-requires-clause-bounds
drawing_of-drawing-requires-clause-bounds g c =
    let t = c.args.counted.now in
    ap (map (λ n. supplied_plain n.bound.now)) c.deref-2.ensures.value
    ∙ c.in_ok-bounds.ensures
    ∙ ap (map (λ b. supplied_plain b.bound)) c.deref.ensures.value
    ∙ c.in_ok-called.ensures
    ∙ ap (map (λ f. f.bound)) c.bounded.ensures
    ∙ named_back t.frame t.rows t.bounds
