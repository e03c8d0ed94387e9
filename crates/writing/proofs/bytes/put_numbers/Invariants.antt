use Rattle.std.proofs.Common.{◌≡◌, ◌∷◌, take}
use Rattle.std.specs.List.{flat_map}
use Rattle.rows.specs.Lists.{written}
use Rattle.leaves.specs.Bytes.{four}
use Rattle.writing.proofs.bytes.put_numbers.Given as goal

-- so far the kind byte and the numbers seen are written
abbrev pub invariant-loop-i : goal.invariant-loop-i
invariant-loop-i l = l.buffer ≡ written l.fn.buffer l.at (l.kind ∷ flat_map four (take l.i l.numbers))
