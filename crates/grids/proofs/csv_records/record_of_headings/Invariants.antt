use Rattle.std.proofs.Common.{◌≡◌, ◌++◌, [], drop}
use Rattle.csv.specs.Records.{fields_of, partial_of}
use Rattle.grids.specs.CsvFields.{headings_of}
use Rattle.grids.proofs.csv_records.record_of_headings.Given as goal

-- the fields so far, with those from here on, are those of the headings
abbrev pub invariant-loop-heading : goal.invariant-loop-heading
invariant-loop-heading l = record {
  whole : partial_of l.fields ≡ [];
  fields : fields_of l.fields ++ headings_of (drop l.heading-index l.headings) ≡ headings_of l.headings;
}
