use Rattle.std.proofs.Common.{◌≡◌, ◌+◌, ◌*◌, ◌∙◌, inl, arith}
use Rattle.plots.proofs.Steps.{many_long, ten_more}
use Rattle.plots.proofs.scales.tick_step.Goals as goal

pub loop-power-preserved : goal.loop-power-preserved
loop-power-preserved c =
    let long = many_long c.args.span c.loop-power.power 100 c.loop-power-test.true in
    let ten = c.loop-power.invariant.ten in
    record {
      ten = (ten.0 + 1, ten_more c.loop-power.power ten.0 ten.1);
      some = omega (arith, c.loop-power.invariant.some);
      under = omega (arith, long);
    }

pub returns-else-span-power-le10-3-clause-round : goal.returns-else-span-power-le10-3-clause-round
returns-else-span-power-le10-3-clause-round c =
    let ten = c.loop-power.invariant.ten in
    let turned : 10 * c.loop-power.power ≡ c.loop-power.power * 10 = omega arith in
    (ten.0 + 1, inl (turned ∙ ten_more c.loop-power.power ten.0 ten.1))
