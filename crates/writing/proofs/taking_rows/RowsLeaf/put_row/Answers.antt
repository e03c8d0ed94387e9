use Rattle.std.proofs.Common.{ap, ◌∙◌}
use Rattle.reading.specs.Phases.{place_of}
use Rattle.writing.proofs.Entries.{row_filed}
use Rattle.writing.proofs.taking_rows.RowsLeaf.put_row.Goals as goal

pub returns : goal.returns
returns c =
    row_filed c.self.inside.heading c.self.inside.rows c.args.self.now c.self.view_is c.args.row.now c.args.buffer.now
    c.put_numbers.new.buffer c.place-at.result
    c.requires.few c.requires.on c.requires.room
    (c.place-at.ensures ∙ ap place_of c.phase.ensures.answered) c.put_numbers.ensures
