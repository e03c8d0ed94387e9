use Rattle.std.proofs.Common.{ap, map, ◌∙◌}
use Rattle.views.proofs.Counts.{head_is, named_back}
use Rattle.views.proofs.counted.Counted.head.Goals as goal

pub returns : goal.returns
returns c =
    let t = c.args.self.now in
    head_is t c.ticks-frame.result (map (λ f. f.bound) c.bounded.result.now) _ _ _
    (c.ticks-frame.ensures ∙ ap (λ f. f.frame.ticks) c.exact.ensures)
    (ap (map (λ f. f.bound)) c.bounded.ensures ∙ named_back t.frame t.rows t.bounds) c.in_ok-text.ensures.ok
    c.in_ok-push_bounds.ensures c.in_ok-push_str.ensures.bytes
