use Rattle.std.proofs.Common.{refl, ℕ}
use Rattle.csv.specs.Records.{fields_of}
use Rattle.grids.specs.Cells.{Headings}
use Rattle.grids.proofs.CsvReading.{field_more}
use Rattle.grids.specs.CsvFields.{field_at, fields_from}
use Rattle.grids.proofs.csv_records.record_of_row.Goals as goal

pub loop-place-preserved : goal.loop-place-preserved
loop-place-preserved c =
    let row = c.args.row.now in
    record {
      whole = c.in_ok-push_at.ensures.partial;
      fields = field_more (λ (hs : Headings) (n : ℕ). fields_from hs n row) (field_at row) (λ h hs n. refl)
          c.args.headings.now c.loop-place.place (fields_of c.loop-place.fields) (fields_of c.push_at.new.fields) _
          c.loop-place-test.true c.in_ok-push_at.ensures.fields c.loop-place.invariant.fields;
    }
