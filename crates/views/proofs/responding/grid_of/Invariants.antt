use Rattle.std.proofs.Common.{◌≡◌, take}
use Rattle.grids.specs.CsvFields.{headings_of}
use Rattle.task_tables.specs.Tables.{table_names, table_numbers}
use Rattle.views.specs.Ranked.{shown_rows}
use Rattle.views.specs.Responded.{response_columns, responses_told}
use Rattle.views.proofs.responding.grid_of.Given as goal

-- the tasks seen are told, under the headings
abbrev pub invariant-loop-i : goal.invariant-loop-i
invariant-loop-i l = record {
  headings : headings_of l.grid.headings.items ≡ response_columns;
  rows : shown_rows l.grid.rows.items
      ≡ responses_told (table_names l.table) 0 (take l.i (table_numbers l.table)) (take l.i l.responses);
}
