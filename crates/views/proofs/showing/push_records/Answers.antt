use Rattle.std.proofs.Common.{◌≡◌, ◌++◌, map, ap, rules, ◌∙◌}
use Rattle.std.specs.Iterator.Adapters.{enumerate_count, enumerate_source}
use Rattle.grids.specs.CsvFields.{field_of}
use Rattle.reading.specs.Told.{told_of, still_told}
use Rattle.views.specs.Cells.{record_fields}
use Rattle.views.specs.Ranked.{field_rows, told_rows}
use Rattle.views.proofs.Told.{leaf_told, told_item, told_next}
use Rattle.views.proofs.showing.push_records.Goals as goal

pub loop-i-preserved : goal.loop-i-preserved
loop-i-preserved c =
    let tell = told_item (record_fields c.args.name.now c.heading-heading.result) in
    told_next tell (λ row. map field_of row.items) (field_rows c.args.records.now.items) c.loop-i.records.items
    c.push.new.self.items c.in_ok-row_record.field-0 c.loop-i.yielded
    (c.in-Some.i, (c.in-Some.row, c.in-Some.finding))
    c.loop-i.invariant c.in_ok-row_record.ensures (search rules)

pub returns : goal.returns
returns c = λ x holds.
    let from = c.into_iter-i-iterator.result in
    let tell = record_fields c.args.name.now c.heading-heading.result in
    let gives : still_told (enumerate_source from) ≡ told_of x =
    search (rules, c.rows_with_findings.ensures.told x holds) in
    let begins : enumerate_count from ≡ 0 = search rules in
    c.loop-i.invariant
    ∙ ap (λ xs. field_rows c.args.records.now.items ++ xs)
    (leaf_told tell x from c.loop-i.i-iterator c.next.new.self c.loop-i.yielded c.next.result gives begins
    c.loop-i.yielded_by c.in-None.is c.next.ensures.steps
    ∙ ap (λ h. told_rows (record_fields c.args.name.now h) x) (c.heading-heading.ensures.answered ∙ holds.head))
