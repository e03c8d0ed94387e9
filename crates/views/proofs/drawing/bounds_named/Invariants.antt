use Rattle.std.proofs.Common.{◌≡◌, map, take}
use Rattle.bounds.specs.Families.{supplied_plain}
use Rattle.views.proofs.drawing.bounds_named.Given as goal

-- the bounds seen are there
abbrev pub invariant-loop-one : goal.invariant-loop-one
invariant-loop-one l =
    map (λ n. supplied_plain n.bound.now) l.bounds.items
    ≡ map (λ b. supplied_plain b.bound) (take l.one-index l.called)
