use Rattle.std.proofs.Common.{arith}
use Rattle.findings.specs.Loads.{load_of}
use Rattle.findings.proofs.Exacts.{skipped}
use Rattle.findings.proofs.loads.Load.skip.Goals as goal

pub loop-preserved : goal.loop-preserved
loop-preserved g c =
    let l = load_of c.args.self.now in
    record {
      later = omega (arith, c.loop.invariant.later, c.if-demand-at.false, c.min-at.ensures, c.if-at-last.false);
      within = omega (arith, c.min-at.ensures);
      none = skipped l c.args.from c.loop.at c.min-at.result c.loop.invariant.none
          (omega (arith, c.min-at.ensures, c.exact-demand.ensures));
    }
