use Rattle.std.proofs.Common.{◌≡◌, ◌++◌, [], drop}
use Rattle.csv.specs.Records.{fields_of, partial_of}
use Rattle.grids.specs.CsvFields.{fields_from}
use Rattle.grids.proofs.csv_records.record_of_row.Given as goal

-- the fields so far, with those from here on, are those of the row
abbrev pub invariant-loop-place : goal.invariant-loop-place
invariant-loop-place l = record {
  whole : partial_of l.fields ≡ [];
  fields : fields_of l.fields ++ fields_from (drop l.place l.headings) l.place l.row ≡ fields_from l.headings 0 l.row;
}
