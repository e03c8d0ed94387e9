use Rattle.std.proofs.Common.{◌≡◌, None, take}
use Rattle.views.specs.Troubles.{bad_kind}
use Rattle.views.proofs.counted.bad_kind.Given as goal

-- none of the bounds seen has a bad accuracy
abbrev pub invariant-loop-bound : goal.invariant-loop-bound
invariant-loop-bound l = bad_kind (take l.bound-index l.bounds) ≡ None
