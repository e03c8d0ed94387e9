use Rattle.std.proofs.Common.{◌≡◌, ◌++◌, drop}
use Rattle.json.specs.Tree.{members_tokens}
use Rattle.grids.specs.JsonTrees.{members_from}
use Rattle.grids.proofs.json_text.write_members.Given as goal

-- the tokens so far, with those of the members from here on, are those of all members
abbrev pub invariant-loop-place : goal.invariant-loop-place
invariant-loop-place l = record {
  tokens : l.writer.tokens ++ members_tokens (members_from (drop l.place l.headings) l.place l.row)
      ≡ l.initial.writer.tokens ++ members_tokens (members_from l.headings 0 l.row);
  before : l.writer.before ≡ l.initial.writer.before;
}
