use Rattle.std.proofs.Common.{rules, ◌≡◌, ◌≢◌}
use Rattle.std.specs.Iterator.Adapters.{enumerate_count, enumerate_source, zip_first, zip_second}
use Rattle.reading.specs.Told.{told_of, still_told}
use Rattle.views.proofs.ComparedRows.{both_give}
use Rattle.views.proofs.Parted.{all_same, one_row, other_row, parted_at, same_more}
use Rattle.views.proofs.differences.first_parted.Goals as goal

pub loop-i-preserved : goal.loop-i-preserved
loop-i-preserved c =
    same_more one_row other_row c.loop-i.yielded
    (c.in-Some.i, ((c.in-Some.one, c.in-Some.field-0-1-0-1), (c.in-Some.other, c.in-Some.field-0-1-1-1)))
    c.loop-i.invariant (search rules)

pub returns-then-ne-clause-first : goal.returns-then-ne-clause-first
returns-then-ne-clause-first c = λ x d holds other frames even.
    let from = c.into_iter-i-iterator.result in
    let one : still_told (zip_first (enumerate_source from)) ≡ told_of x =
    search (rules, c.rows_with_findings.ensures.told x holds) in
    let two : still_told (zip_second (enumerate_source from)) ≡ told_of d =
    search (rules, c.rows_with_findings-2.ensures.told d other) in
    let begins : enumerate_count from ≡ 0 = search rules in
    let parted : c.numbers-one.result ≢ c.numbers-other.result = search rules in (
      frames,
      even,
      parted_at x d holds.lawful other.lawful even from c.loop-i.i-iterator c.next.new.self c.loop-i.yielded
          (both_give x d from one two begins) c.loop-i.yielded_by c.loop-i.invariant
          (c.in-Some.i, ((c.in-Some.one, c.in-Some.field-0-1-0-1), (c.in-Some.other, c.in-Some.field-0-1-1-1)))
          c.numbers-one.result c.numbers-other.result c.in-Some.ensures.steps c.numbers-one.ensures
          c.numbers-other.ensures parted,
    )

pub returns-clause-none : goal.returns-clause-none
returns-clause-none c = λ x d holds other even.
    let from = c.into_iter-i-iterator.result in
    let one : still_told (zip_first (enumerate_source from)) ≡ told_of x =
    search (rules, c.rows_with_findings.ensures.told x holds) in
    let two : still_told (zip_second (enumerate_source from)) ≡ told_of d =
    search (rules, c.rows_with_findings-2.ensures.told d other) in
    let begins : enumerate_count from ≡ 0 = search rules in
    all_same x d holds.lawful other.lawful even from c.loop-i.i-iterator c.next.new.self c.loop-i.yielded
    (both_give x d from one two begins) c.loop-i.yielded_by c.loop-i.invariant c.next.result c.in-None.is
    c.next.ensures.steps
