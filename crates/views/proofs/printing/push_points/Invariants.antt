use Rattle.std.proofs.Common.{◌≡◌, ◌++◌, decimal, map, take}
use Rattle.rows.specs.Found.{tells}
use Rattle.grids.specs.Shown.{shown_of}
use Rattle.views.proofs.printing.push_points.Given as goal

-- the points seen stand behind the other cells
abbrev pub invariant-loop-finding : goal.invariant-loop-finding
invariant-loop-finding l =
    map shown_of l.cells.items
    ≡ map shown_of l.fn.cells.items ++ map (λ f. decimal f.points) (map tells (take l.finding-index l.bounded))
