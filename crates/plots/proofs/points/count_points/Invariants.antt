use Rattle.std.proofs.Common.{◌≡◌, ◌-◌, ◌≤◌}
use Rattle.bounds.specs.Instants.{count}
use Rattle.findings.specs.Findings.{is_tested}
use Rattle.findings.specs.Lent.{lent_load, lent_window}
use Rattle.plots.proofs.points.count_points.Given as goal

abbrev pub invariant-loop-next : goal.invariant-loop-next
invariant-loop-next g l = record {
  within : l.at ≤ lent_window l.demand;
  few : l.points ≤ l.at;
  counted : l.points ≡ count (is_tested (lent_load l.demand) (lent_window l.demand)) l.at;
}

abbrev pub decreases-loop-next : goal.decreases-loop-next
decreases-loop-next g l = lent_window l.demand - l.at
