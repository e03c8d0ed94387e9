use Rattle.std.proofs.Common.{◌≡◌, ◌++◌, map}
use Rattle.views.specs.Cells.{record_fields}
use Rattle.views.specs.Ranked.{field_rows}
use Rattle.views.proofs.Told.{told_item}
use Rattle.views.proofs.showing.push_records.Given as goal

-- the rows seen are told behind the records that were there
abbrev pub invariant-loop-i : goal.invariant-loop-i
invariant-loop-i l =
    let tell = told_item (record_fields l.name l.heading) in
    field_rows l.records.items ≡ field_rows l.initial.records.items ++ map tell l.yielded
