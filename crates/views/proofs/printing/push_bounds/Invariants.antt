use Rattle.std.proofs.Common.{◌≡◌, ◌++◌, flat_map, map, take, string_bytes}
use Rattle.views.specs.Printed.{bound_part}
use Rattle.views.proofs.printing.push_bounds.Given as goal

-- the bounds of the counts seen stand behind the text
abbrev pub invariant-loop-filing : goal.invariant-loop-filing
invariant-loop-filing l =
    string_bytes l.text
    ≡ string_bytes l.fn.text ++ flat_map bound_part (map (λ f. f.bound) (take l.filing-index l.counts))
