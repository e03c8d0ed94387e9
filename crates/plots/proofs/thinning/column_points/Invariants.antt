use Rattle.std.proofs.Common.{◌≤◌}
use Rattle.std.specs.BTreeSet.{btree_set_len}
use Rattle.findings.specs.Findings.{is_tested}
use Rattle.findings.specs.Lent.{lent_load, lent_window}
use Rattle.plots.specs.Thinning.{DrawsColumns, DrawsWithin}
use Rattle.plots.proofs.thinning.column_points.Given as goal

abbrev pub invariant-loop-column : goal.invariant-loop-column
invariant-loop-column g l = record {
  within : DrawsWithin (lent_window l.demand) l.kept;
  firsts : DrawsColumns (is_tested (lent_load l.demand) (lent_window l.demand))
      (lent_window l.demand) l.width l.column l.kept;
  few : btree_set_len l.kept ≤ l.column;
}
