use Rattle.std.proofs.lemmas.Result.{IfOk-weaker}
use Rattle.rows.proofs.Checks.{given_is}
use Rattle.leaves.specs.Headings.{heading_checks, heading_plain}
use Rattle.writing.proofs.taking_rows.begin_numbers.Goals as goal

pub returns-clause-filed : goal.returns-clause-filed
returns-clause-filed c =
    let h = c.in_ok-judge.field-0 in
    let same = given_is (heading_checks c.args.numbers 0) (heading_plain h) c.args.numbers c.in_ok-judge.ensures in
    IfOk-weaker c.begin.result _ _ (λ leaf filed. (h, same, filed.0, filed.1)) c.begin.ensures.filed
