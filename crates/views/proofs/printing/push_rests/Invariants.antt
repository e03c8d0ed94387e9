use Rattle.std.proofs.Common.{◌≡◌, ◌++◌, flat_map, map, take}
use Rattle.rows.specs.Found.{tells}
use Rattle.grids.specs.Shown.{shown_of}
use Rattle.views.specs.Cells.{bounded_texts}
use Rattle.views.proofs.printing.push_rests.Given as goal

-- the first rests seen stand behind the other cells
abbrev pub invariant-loop-finding : goal.invariant-loop-finding
invariant-loop-finding l =
    map shown_of l.cells.items
    ≡ map shown_of l.fn.cells.items
    ++ flat_map (bounded_texts (tells l.exact)) (map tells (take l.finding-index l.bounded))
