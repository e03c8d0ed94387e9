use Rattle.std.proofs.Common.{◌≡◌, ◌++◌, flat_map, map, take}
use Rattle.grids.specs.CsvFields.{headings_of}
use Rattle.views.specs.Printed.{rest_columns}
use Rattle.views.proofs.printing.push_rest_headings.Given as goal

-- the columns of the counts seen stand behind the others
abbrev pub invariant-loop-filing : goal.invariant-loop-filing
invariant-loop-filing l =
    headings_of l.headings.items
    ≡ headings_of l.fn.headings.items
    ++ flat_map rest_columns (map (λ f. f.bound.0) (take l.filing-index l.counts))
