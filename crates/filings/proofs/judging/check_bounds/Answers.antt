use Rattle.std.proofs.lemmas.Result.{err_from_is_err_and}
use Rattle.filings.proofs.Named.{bound_more, refused_bound}
use Rattle.filings.proofs.judging.check_bounds.Goals as goal

pub returns-in_err-check_bound : goal.returns-in_err-check_bound
returns-in_err-check_bound c =
    let p = err_from_is_err_and c.from_residual.result c.from_residual.ensures.1 in
    rw (p.1, p.2)
    (refused_bound c.args.bounds.now c.loop-bound.bound-index _ c.loop-bound-test.true c.loop-bound.invariant _ _
    c.in_err-check_bound.ensures)

pub loop-bound-preserved : goal.loop-bound-preserved
loop-bound-preserved c =
    bound_more c.args.bounds.now c.loop-bound.bound-index _ c.loop-bound-test.true c.loop-bound.invariant
    c.in_ok-check_bound.ensures
