use Rattle.std.proofs.Common.{◌≡◌, ◌++◌, map, ap, rules, ◌∙◌}
use Rattle.std.specs.Iterator.Adapters.{enumerate_count, enumerate_source, zip_first, zip_second}
use Rattle.grids.specs.Shown.{shown_of}
use Rattle.reading.specs.Told.{told_of, still_told}
use Rattle.views.specs.Ranked.{shown_rows}
use Rattle.views.proofs.ComparedRows.{both_give, compared_item, leaves_told}
use Rattle.views.proofs.Told.{told_next}
use Rattle.views.proofs.comparing.push_compared.Goals as goal

pub loop-i-preserved : goal.loop-i-preserved
loop-i-preserved c =
    told_next compared_item (λ row. map shown_of row.items) (shown_rows c.args.rows.now.items) c.loop-i.rows.items
    c.push.new.self.items c.in_ok-compared_row.field-0 c.loop-i.yielded
    (c.in-Some.i, ((c.in-Some.row, c.in-Some.one), (c.in-Some.field-0-1-1-0, c.in-Some.other)))
    c.loop-i.invariant c.in_ok-compared_row.ensures (search rules)

pub returns : goal.returns
returns c = λ x d holds other.
    let from = c.into_iter-i-iterator.result in
    let one : still_told (zip_first (enumerate_source from)) ≡ told_of x =
    search (rules, c.rows_with_findings.ensures.told x holds) in
    let two : still_told (zip_second (enumerate_source from)) ≡ told_of d =
    search (rules, c.rows_with_findings-2.ensures.told d other) in
    let begins : enumerate_count from ≡ 0 = search rules in
    c.loop-i.invariant
    ∙ ap (λ xs. shown_rows c.args.rows.now.items ++ xs)
    (leaves_told x d from c.loop-i.i-iterator c.next.new.self c.loop-i.yielded c.next.result
    (both_give x d from one two begins) c.loop-i.yielded_by c.in-None.is c.next.ensures.steps)
