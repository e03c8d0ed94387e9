use Rattle.std.proofs.Common.{◌≡◌, ◌++◌, map}
use Rattle.views.specs.Ranked.{shown_rows}
use Rattle.views.proofs.ComparedRows.{compared_item}
use Rattle.views.proofs.comparing.push_compared.Given as goal

-- the rows seen are told behind those that were there
abbrev pub invariant-loop-i : goal.invariant-loop-i
invariant-loop-i l = shown_rows l.rows.items ≡ shown_rows l.initial.rows.items ++ map compared_item l.yielded
