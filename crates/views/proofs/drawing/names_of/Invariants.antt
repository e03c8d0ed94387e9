use Rattle.std.proofs.Common.{◌≡◌, map, take}
use Rattle.bounds.specs.Families.{supplied_plain}
use Rattle.views.proofs.drawing.names_of.Given as goal

-- the bounds of the counts seen are there
abbrev pub invariant-loop-filing : goal.invariant-loop-filing
invariant-loop-filing l =
    map (λ b. supplied_plain b.bound) l.called.items ≡ map (λ f. f.bound) (take l.filing-index l.counts)
