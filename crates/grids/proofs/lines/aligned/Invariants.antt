use Rattle.std.proofs.Common.{◌≡◌, ◌++◌, drop}
use Rattle.std.specs.Prelude.{flat_map}
use Rattle.grids.specs.Aligned.{line_text}
use Rattle.grids.specs.Shown.{heading_at, shown_at}
use Rattle.grids.proofs.lines.aligned.Given as goal

-- the lines so far, with those of the rows from here on, are those of the headings and all rows
abbrev pub invariant-loop-row : goal.invariant-loop-row
invariant-loop-row l =
    l.text.items ++ flat_map (λ row. line_text (shown_at row.items) l.columns.items) (drop l.row-index l.row-items)
    ≡ line_text (heading_at l.grid.headings.items) l.columns.items
    ++ flat_map (λ row. line_text (shown_at row.items) l.columns.items) l.row-items
