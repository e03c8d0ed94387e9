use Rattle.std.proofs.Common.{◌≡◌, map, take}
use Rattle.rows.specs.Judging.{plain}
use Rattle.rows.proofs.tables.judge_rows.Given as goal

-- so far there are the rows of the places seen
abbrev pub invariant-loop-row : goal.invariant-loop-row
invariant-loop-row l = map plain l.rows.items ≡ take l.row-index l.numbers
