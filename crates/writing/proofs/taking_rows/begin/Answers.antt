use Rattle.writing.proofs.Turns.{read_first}
use Rattle.writing.proofs.taking_rows.begin.Goals as goal

pub returns-clause-filed : goal.returns-clause-filed
returns-clause-filed c = (c.opened.ensures.filed, read_first c.opened.ensures.filed)
