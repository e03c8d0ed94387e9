-- The lines of a table, as the code writes them.
use Rattle.std.specs.Prelude.{ℕ, List}
use Rattle.grids.specs.Shown.{heading_at, shown_at}
use Rattle.grids.specs.declared.lines.GridLine.{GridLine}
use Rattle.grids.specs.declared.lines.GridLine.TheVariants.{Head, Row}

-- what is shown at a place of a line
abbrev pub text_at : GridLine → ℕ → List ℕ
text_at (Head headings) place = heading_at headings.now place
text_at (Row row) place = shown_at row.now place
