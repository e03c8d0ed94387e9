use Rattle.csv.specs.Writing.{text_written}
use Rattle.grids.proofs.CsvReading.{record_more}
use Rattle.grids.specs.CsvFields.{fields_from}
use Rattle.grids.proofs.csv_text.write_row_records.Goals as goal

pub loop-row-preserved : goal.loop-row-preserved
loop-row-preserved g c =
    let before = c.loop-row.invariant.bytes in
    record {
      fresh = c.in_ok-write_row_record.ensures.fresh;
      bytes = record_more (λ row. fields_from c.args.headings.now 0 row.items)
          c.args.rows.now c.loop-row.row-index c.row-item.result
          (text_written g.W.Write.contents c.args.writer.now) (text_written g.W.Write.contents c.loop-row.writer)
          (text_written g.W.Write.contents c.write_row_record.new.writer)
          before.0 _ c.loop-row-test.true c.row-item.is before.1 before.2
          (rw c.deref.ensures.value at c.in_ok-write_row_record.ensures.bytes);
    }
