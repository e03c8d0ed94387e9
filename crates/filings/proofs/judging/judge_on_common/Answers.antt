use Rattle.std.proofs.Common.{sym}
use Rattle.rows.specs.Books.{plain_book}
use Rattle.filings.proofs.Order.{common_judged}
use Rattle.filings.proofs.judging.judge_on_common.Goals as goal

pub returns-in-Some-clause-answered : goal.returns-in-Some-clause-answered
returns-in-Some-clause-answered c =
    common_judged c.in-Some.frame c.args.table.now plain_book c.judge.result c.in-Some.ensures.least.common
    (sym c.in-Some.ensures.answered) c.judge.ensures.answered
