use Rattle.writing.proofs.Entries.{heading_filed}
use Rattle.writing.proofs.taking_rows.RowsLeaf.opened.Goals as goal

pub returns-clause-filed : goal.returns-clause-filed
returns-clause-filed c =
    heading_filed c.args.heading c.numbers-numbers.result c.args.buffer.now c.put_numbers.new.buffer c.put.new.buffer
    c.numbers-numbers.ensures c.requires c.put_numbers.ensures c.put.ensures
