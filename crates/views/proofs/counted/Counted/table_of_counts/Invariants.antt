use Rattle.std.proofs.Common.{◌≡◌}
use Rattle.grids.specs.CsvFields.{headings_of}
use Rattle.views.specs.Printed.{count_columns, first_told, kinds_of}
use Rattle.views.specs.Ranked.{shown_rows}
use Rattle.views.proofs.counted.Counted.table_of_counts.Given as goal

-- the rows seen are told, under the headings
abbrev pub invariant-loop-i : goal.invariant-loop-i
invariant-loop-i l = record {
  headings : headings_of l.grid.headings.items ≡ count_columns (kinds_of l.self);
  rows : shown_rows l.grid.rows.items ≡ first_told l.i l.self;
}
