use Rattle.std.proofs.Common.{ap, map, ◌∙◌}
use Rattle.grids.specs.CsvFields.{headings_of}
use Rattle.views.specs.Printed.{count_columns}
use Rattle.views.specs.Ranked.{shown_rows}
use Rattle.views.proofs.Counts.{kinds_back}
use Rattle.views.proofs.counted.Counted.table_of_counts.Goals as goal

pub loop-i-init : goal.loop-i-init
loop-i-init c =
    let t = c.args.self.now in
    record {
      headings =
          ap headings_of (c.in_ok-grid.ensures.headings ∙ c.deref.ensures.value)
          ∙ c.in_ok-headings.ensures
          ∙ ap (λ counts. count_columns (map (λ f. f.bound.0) counts)) c.bounded.ensures
          ∙ ap count_columns (kinds_back t.frame t.rows t.bounds);
      rows = ap shown_rows c.in_ok-grid.ensures.rows;
    }
