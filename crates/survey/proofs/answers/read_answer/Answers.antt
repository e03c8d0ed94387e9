use Rattle.std.proofs.Common.{arith}
use Rattle.sheets.specs.Answers.{deciding}
use Rattle.survey.proofs.Deciding.{filled_first, filled_known}
use Rattle.survey.proofs.answers.read_answer.Goals as goal

pub returns-clause-answered : goal.returns-clause-answered
returns-clause-answered g c =
    let filled = c.in_ok-count.ensures in
    let first = filled_first deciding c.in_ok-count.count c.fill.new.buffer
    (omega arith) filled.within _ _ filled.read filled.end in
    record { bytes = first.0; all = first.1; answered = c.put_answer.ensures.answers first.0 first.2 }

pub returns-clause-read : goal.returns-clause-read
returns-clause-read g c =
    let filled = c.in_ok-count.ensures in
    filled_known deciding c.in_ok-count.count c.fill.new.buffer (omega arith) filled.within _ _ filled.read filled.end
