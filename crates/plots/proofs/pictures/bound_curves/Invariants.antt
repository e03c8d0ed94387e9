use Rattle.std.proofs.Common.{map, take}
use Rattle.std.specs.List.{AllZip}
use Rattle.plots.specs.Drawn.{drawn_window, load_by}
use Rattle.plots.specs.Pictures.{IsBoundCurveOf}
use Rattle.plots.proofs.pictures.bound_curves.Given as goal

abbrev pub invariant-loop-named : goal.invariant-loop-named
invariant-loop-named g l =
    AllZip (IsBoundCurveOf (drawn_window l.drawing) 720 l.rests)
    (map (load_by l.drawing) (take l.named-index l.drawing.bounds.now)) l.curves.items
