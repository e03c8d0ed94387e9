use Rattle.std.proofs.Common.{ap, ◌∙◌, ◌++◌}
use Rattle.std.proofs.lemmas.Result.{err_from_is_err_and}
use Rattle.rows.specs.Answers.{checked}
use Rattle.rows.proofs.Checks.{given_is, passed_first, refused_first}
use Rattle.filings.specs.Checks.{bound_checks, frame_for, given_frame_checks, table_checks}
use Rattle.filings.proofs.Order.{table_left}
use Rattle.filings.proofs.judging.judge.Goals as goal

pub returns-in_err-check_bounds-clause-answered : goal.returns-in_err-check_bounds-clause-answered
returns-in_err-check_bounds-clause-answered c =
    let frame = c.args.frame in
    let bounds = c.args.bounds.now in
    let table = c.args.table.now in
    let p =
    err_from_is_err_and c.from_residual-in_err-check_bounds.result c.from_residual-in_err-check_bounds.ensures.1 in
    let fault = c.in_err-check_bounds.field-0.0 in
    rw (p.1, p.2)
    (refused_first (bound_checks bounds) (table_checks frame table) fault.refusal fault.at _
    c.in_err-check_bounds.ensures (frame_for frame table, table)
    ∙ passed_first (given_frame_checks frame) (bound_checks bounds ++ table_checks frame table) _ _
    c.in_ok-frame.ensures (frame_for frame table, table))

pub returns-clause-answered : goal.returns-clause-answered
returns-clause-answered c =
    let given = c.in_ok-frame.frame in
    let table = c.args.table.now in
    c.judge_on.ensures.answered
    ∙ ap (λ f. checked (table_checks given table) (frame_for f table, table))
    (given_is (given_frame_checks c.args.frame) given c.args.frame c.in_ok-frame.ensures)
    ∙ table_left c.args.frame c.args.bounds.now table given c.in_ok-frame.ensures _ _ c.in_ok-check_bounds.ensures
    (frame_for c.args.frame table, table)
