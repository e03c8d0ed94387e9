use Rattle.std.proofs.Common.{◌≡◌, ◌++◌, map, ap, rules, ◌∙◌}
use Rattle.std.specs.Iterator.Adapters.{enumerate_count, enumerate_source}
use Rattle.grids.specs.Shown.{shown_of}
use Rattle.reading.specs.Told.{told_of, still_told}
use Rattle.views.specs.Cells.{leaf_texts}
use Rattle.views.specs.Ranked.{shown_rows}
use Rattle.views.proofs.Told.{leaf_told, told_item, told_next}
use Rattle.views.proofs.showing.push_rows.Goals as goal

pub loop-i-preserved : goal.loop-i-preserved
loop-i-preserved c =
    told_next (told_item leaf_texts) (λ row. map shown_of row.items) (shown_rows c.args.rows.now.items)
    c.loop-i.rows.items c.push.new.self.items c.in_ok-leaf_row.field-0 c.loop-i.yielded
    (c.in-Some.i, (c.in-Some.row, c.in-Some.finding))
    c.loop-i.invariant c.in_ok-leaf_row.ensures (search rules)

pub returns : goal.returns
returns c = λ x holds.
    let from = c.into_iter-i-iterator.result in
    let gives : still_told (enumerate_source from) ≡ told_of x =
    search (rules, c.rows_with_findings.ensures.told x holds) in
    let begins : enumerate_count from ≡ 0 = search rules in
    c.loop-i.invariant
    ∙ ap (λ xs. shown_rows c.args.rows.now.items ++ xs)
    (leaf_told leaf_texts x from c.loop-i.i-iterator c.next.new.self c.loop-i.yielded c.next.result gives begins
    c.loop-i.yielded_by c.in-None.is c.next.ensures.steps)
