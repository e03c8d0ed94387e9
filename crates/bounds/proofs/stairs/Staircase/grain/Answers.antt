use Rattle.std.proofs.Common.{suc, arith}
use Rattle.std.proofs.Math.Nat.{pow-suc}
use Rattle.bounds.proofs.StairWalks.{grain_of_quotient}
use Rattle.bounds.proofs.stairs.Staircase.grain.Goals as goal

pub loop-grain-preserved : goal.loop-grain-preserved
loop-grain-preserved c =
    let (e, power) = c.loop-grain.invariant.power in
    record {
      power = (suc e, omega (arith, power, pow-suc 2 e));
      some = omega (arith, c.loop-grain.invariant.some);
      fits = omega (arith, c.loop-grain-test.true);
    }

pub returns : goal.returns
returns c =
    let known = c.loop-grain.invariant in
    grain_of_quotient c.args.self.now.accuracy c.args.self.now.low c.args.jobs c.loop-grain.grain known.power.0
    known.power.1 known.fits (omega (arith, c.loop-grain-test.false))
