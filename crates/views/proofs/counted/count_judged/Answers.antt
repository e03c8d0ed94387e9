use Rattle.views.proofs.Counts.{counts_kept, counts_told_back}
use Rattle.views.proofs.counted.count_judged.Goals as goal

pub invariant_of-result : goal.invariant_of-result
invariant_of-result g c =
    counts_kept c.count_by-exact.result c.args.judged.now.frame c.args.judged.now.rows c.args.bounds.now
    c.in-Ok.bounded.items c.count_by-exact.ensures c.in-Ok.ensures

pub returns-in-Ok-clause-counted : goal.returns-in-Ok-clause-counted
returns-in-Ok-clause-counted g c =
    counts_told_back c.args.table c.count_by-exact.result c.args.judged.now.frame c.args.judged.now.rows
    c.args.bounds.now c.in-Ok.bounded.items c.count_by-exact.ensures c.in-Ok.ensures
