use Rattle.std.proofs.Common.{◌≡◌, ◌+◌, ◌*◌, ◌≤◌, length, subst, arith}
use Rattle.std.specs.BTreeSet.{btree_set_len}
use Rattle.findings.specs.Lent.{lent_window}
use Rattle.plots.specs.Thinning.{Draws, DrawsWithin}
use Rattle.plots.proofs.Columns.{thinned}
use Rattle.plots.proofs.Windows.{window_some}
use Rattle.plots.proofs.thinning.instants.Goals as goal

pub returns-clause-thinned : goal.returns-clause-thinned
returns-clause-thinned g c =
    let d = c.args.demand.now in
    let rests = c.args.rests.now in
    let all : c.loop-rest.rest-index ≡ length rests = omega arith in
    let done = c.loop-rest.invariant in
    let last = c.in_ok-keep.ensures in
    let many : btree_set_len c.loop-rest.kept ≤ 720 + 3 * length rests = omega (arith, all, done.few) in
    let end = subst (Draws c.keep.new.kept) c.window-window.ensures last.kept in
    let within = subst (λ w. DrawsWithin w c.keep.new.kept) c.window-window.ensures last.within in
    thinned _ (lent_window d) rests c.in_ok-kept.kept c.loop-rest.kept c.keep.new.kept
    (window_some d.row.now) c.in_ok-kept.ensures.firsts done.more
    (λ k few. done.decided k (omega (arith, all, few))) many last.more end within last.few
