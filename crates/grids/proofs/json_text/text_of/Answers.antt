use Rattle.std.proofs.Common.{◌∙◌}
use Rattle.grids.proofs.JsonReading.{written_reads_as}
use Rattle.grids.proofs.json_text.text_of.Goals as goal

pub returns-clause-reads : goal.returns-clause-reads
returns-clause-reads c =
    let rest = rw (c.deref.ensures.value, c.deref-2.ensures.value) at c.in_ok-write_row_objects.ensures.ok in
    written_reads_as c.into_inner.result.items c.write_row_objects.new.writer.before
    c.write_row_objects.new.writer.tokens c.begin_array.new.self.tokens
    c.new-writer.result.tokens c.args.grid.now.headings.items c.args.grid.now.rows.items c.into_inner.ensures.items
    (c.in_ok-write_row_objects.ensures.before ∙ c.begin_array.ensures.room.0 ∙ c.new-writer.ensures.before
    ∙ c.new.ensures.items)
    c.into_inner.ensures.reads_back rest c.in_ok-begin_array.ensures.ok c.new-writer.ensures.tokens
