use Rattle.std.proofs.Common.{ℕ, ◌+◌, ◌*◌, ◌<◌, ◌≤◌, get_or}
use Rattle.std.specs.BTreeSet.{btree_set_len}
use Rattle.findings.specs.Findings.{is_tested}
use Rattle.findings.specs.Lent.{lent_load, lent_window}
use Rattle.plots.specs.Thinning.{DrawsMore, DrawsRest, DrawsWithin}
use Rattle.plots.proofs.thinning.instants.Given as goal

abbrev pub invariant-loop-rest : goal.invariant-loop-rest
invariant-loop-rest g l = record {
  within : DrawsWithin (lent_window l.demand) l.kept;
  more : DrawsMore l.initial.kept l.kept;
  decided : (k : ℕ) → k < l.rest-index
      → DrawsRest (is_tested (lent_load l.demand) (lent_window l.demand)) (lent_window l.demand)
      (get_or l.rests k 0) l.kept;
  few : btree_set_len l.kept ≤ 720 + 3 * l.rest-index;
}
