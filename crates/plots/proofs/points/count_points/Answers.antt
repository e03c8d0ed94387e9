use Rattle.std.proofs.Common.{arith}
use Rattle.findings.specs.Findings.{is_tested}
use Rattle.findings.specs.Lent.{lent_load, lent_window}
use Rattle.plots.proofs.Walk.{count_next}
use Rattle.plots.proofs.points.count_points.Goals as goal

pub loop-next-preserved : goal.loop-next-preserved
loop-next-preserved g c =
    let d = c.args.demand.now in
    let next = c.in-Some.ensures in
    record {
      within = next.within;
      few = omega (arith, c.loop-next.invariant.few, next.after);
      counted = count_next (is_tested (lent_load d) (lent_window d)) c.loop-next.at
          (lent_window d) c.in-Some.next c.loop-next.points next c.loop-next.invariant.counted;
    }
