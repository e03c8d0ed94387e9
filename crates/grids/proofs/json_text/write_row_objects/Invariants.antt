use Rattle.std.proofs.Common.{◌≡◌, ◌++◌, drop}
use Rattle.json.specs.Tree.{items_tokens}
use Rattle.grids.specs.JsonTrees.{rows_tree}
use Rattle.grids.proofs.json_text.write_row_objects.Given as goal

-- the tokens so far, with those of the rows from here on, are those of all rows
abbrev pub invariant-loop-row : goal.invariant-loop-row
invariant-loop-row l = record {
  tokens : l.writer.tokens ++ items_tokens (rows_tree l.headings (drop l.row-index l.rows))
      ≡ l.initial.writer.tokens ++ items_tokens (rows_tree l.headings l.rows);
  before : l.writer.before ≡ l.initial.writer.before;
}
