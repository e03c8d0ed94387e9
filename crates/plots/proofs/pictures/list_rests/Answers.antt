use Rattle.std.proofs.Common.{◌≡◌, ℕ, List, ◌++◌, ◌∙◌, ap}
use Rattle.std.specs.Option.{option_to_list}
use Rattle.findings.specs.Findings.{load_finding}
use Rattle.plots.specs.Drawn.{drawn_exact, drawn_window, load_by}
use Rattle.plots.proofs.Bounds.{filtered_more}
use Rattle.plots.proofs.pictures.list_rests.Goals as goal

pub loop-named-preserved : goal.loop-named-preserved
loop-named-preserved g c =
    let d = c.args.drawing.now in
    let named = c.named-item.result in
    let before = c.loop-named.rests.items in
    let more : c.push_rest-in-loop-named.new.rests.items ≡ before
    ++ option_to_list (load_finding (load_by d named) (drawn_window d)).rest =
    c.in_ok-push_rest-2.ensures ∙ ap (λ o. before ++ option_to_list o) c.rest.ensures in
    ◌∙◌ {A = List ℕ} more
    (filtered_more (λ l. (load_finding l (drawn_window d)).rest) (load_by d) (drawn_exact d) d.bounds.now
    c.loop-named.named-index named before c.loop-named-test.true c.named-item.is c.loop-named.invariant)
