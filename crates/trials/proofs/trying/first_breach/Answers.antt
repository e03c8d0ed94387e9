use Rattle.std.proofs.Common.{◌∙◌, subst, arith}
use Rattle.std.proofs.lemmas.List.{get_or_default}
use Rattle.trials.specs.Trials.{HoldOf, IsBreachOf}
use Rattle.trials.proofs.Tried.{row_holds}
use Rattle.trials.proofs.trying.first_breach.Goals as goal

pub returns-in-Some : goal.returns-in-Some
returns-in-Some g c = (
  c.loop-row.row-index,
  c.loop-row-test.true,
  subst (λ r. IsBreachOf (g.B.Bound.meaning c.args.bound.now) r c.in-Some.breach)
      (c.row-item.is ∙ get_or_default c.args.rows.now c.loop-row.row-index _ _ c.loop-row-test.true) c.in-Some.ensures,
  c.loop-row.invariant,
)

pub loop-row-preserved : goal.loop-row-preserved
loop-row-preserved g c =
    row_holds (g.B.Bound.meaning c.args.bound.now) c.args.rows.now c.loop-row.row-index c.loop-row.invariant
    (λ d. subst (HoldOf (g.B.Bound.meaning c.args.bound.now))
    (c.row-item.is ∙ get_or_default c.args.rows.now c.loop-row.row-index _ d c.loop-row-test.true)
    c.in_default.ensures)

pub returns : goal.returns
returns g c k d low = c.loop-row.invariant k d (omega arith)
