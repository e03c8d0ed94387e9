use Rattle.std.proofs.Common.{◌≡◌, map}
use Rattle.views.proofs.Parted.{one_row, other_row}
use Rattle.views.proofs.differences.first_parted.Given as goal

-- the rows that came were the same
abbrev pub invariant-loop-i : goal.invariant-loop-i
invariant-loop-i l = map one_row l.yielded ≡ map other_row l.yielded
