use Rattle.std.proofs.Common.{length}
use Rattle.rows.proofs.Checks.{given_is}
use Rattle.brackets.specs.Responses.{response_checks}
use Rattle.views.proofs.Responded.{responses_text}
use Rattle.views.proofs.responding.text_of.Goals as goal

pub returns-in-Ok-told-clause-text : goal.returns-in-Ok-told-clause-text
returns-in-Ok-told-clause-text c =
    let ns = c.numbers.result.now in
    let count = given_is (response_checks ns _) c.in-Ok.rows (length ns) c.in-Ok.ensures.answered in
    responses_text c.args.table.now ns _ c.response_times.new.list c.in-Ok.rows c.in-Ok-told.text.items
    c.numbers.ensures.numbers count c.in-Ok.ensures.rows c.in-Ok.ensures.filled c.in-Ok.ensures.says
    c.in-Ok-told.ensures
