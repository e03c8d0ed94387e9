use Rattle.std.proofs.Common.{◌≡◌, ◌++◌, drop}
use Rattle.grids.specs.Aligned.{fields_text}
use Rattle.grids.specs.Lines.{text_at}
use Rattle.grids.proofs.lines.padded_fields.Given as goal

abbrev pub invariant-loop-place : goal.invariant-loop-place
invariant-loop-place l =
    l.fields.items ++ fields_text (text_at l.line) l.place (drop l.place l.columns)
    ≡ fields_text (text_at l.line) 0 l.columns
