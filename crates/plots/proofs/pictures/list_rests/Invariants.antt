use Rattle.std.proofs.Common.{◌≡◌, ◌∷◌, map, take}
use Rattle.std.specs.List.{filter_map}
use Rattle.findings.specs.Findings.{load_finding}
use Rattle.plots.specs.Drawn.{drawn_exact, drawn_window, load_by}
use Rattle.plots.proofs.pictures.list_rests.Given as goal

abbrev pub invariant-loop-named : goal.invariant-loop-named
invariant-loop-named g l = l.rests.items ≡ filter_map (λ m. (load_finding m (drawn_window l.drawing)).rest)
    (drawn_exact l.drawing ∷ map (load_by l.drawing) (take l.named-index l.drawing.bounds.now))
