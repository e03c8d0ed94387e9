use Rattle.std.proofs.Common.{sym, ◌∙◌}
use Rattle.views.proofs.BadKinds.{bad_first, none_bad}
use Rattle.views.proofs.counted.bad_kind.Goals as goal

pub returns-then-is_bad : goal.returns-then-is_bad
returns-then-is_bad c =
    sym (bad_first c.args.bounds.now c.loop-bound.bound-index _ c.loop-bound-test.true c.loop-bound.invariant
    (sym c.is_bad.ensures ∙ c.if-is_bad.true))

pub loop-bound-preserved : goal.loop-bound-preserved
loop-bound-preserved c =
    none_bad c.args.bounds.now c.loop-bound.bound-index _ c.loop-bound-test.true c.loop-bound.invariant
    (sym c.is_bad.ensures ∙ c.if-is_bad.false)
