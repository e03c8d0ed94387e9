use Rattle.std.proofs.Common.{◌≡◌, ◌-◌, length, subst, sym, ap, ◌∙◌, arith, take}
use Rattle.std.specs.List.{insert}
use Rattle.rows.specs.Books.{book}
use Rattle.rows.proofs.Checks.{when_ok}
use Rattle.rows.proofs.Moved.{length_insert}
use Rattle.findings.specs.Tables.{findings_of}
use Rattle.admission.proofs.Counted.{known_with, many_kept}
use Rattle.admission.proofs.keeping.Kept.with_row.Goals as goal

pub one_more-findings-requires-clause-room : goal.one_more-findings-requires-clause-room
one_more-findings-requires-clause-room g c =
    let kept = c.args.self.now in
    omega (
      arith,
      many_kept (g.B.Bound.meaning c.args.bound.now) kept.table.frame kept.table.rows kept.findings.items
          c.requires.counted,
      c.requires.room,
    )

pub one_more-findings-requires-clause-high : goal.one_more-findings-requires-clause-high
one_more-findings-requires-clause-high g c =
    let kept = c.args.self.now in
    omega (
      arith,
      many_kept (g.B.Bound.meaning c.args.bound.now) kept.table.frame kept.table.rows kept.findings.items
          c.requires.counted,
      c.requires.high,
    )

-- the table with the row
with_is : (g : _) (c : goal.After-findings-1 g)
    → c.put_in.new.self
    ≡ book c.args.self.now.table.frame (insert c.args.self.now.table.rows (c.args.rank - 1) c.args.row)
with_is g c =
    subst (λ b. c.put_in.new.self ≡ book b.frame (insert b.rows (c.args.rank - 1) c.args.row)) c.copy-table.ensures
    (when_ok _ _ c.put_in.result c.unwrap.result c.unwrap.ensures c.put_in.ensures.put)

pub count_from-requires-clause-within : goal.count_from-requires-clause-within
count_from-requires-clause-within g c =
    let kept = c.args.self.now in
    omega (
      arith,
      ap (λ b. length b.rows) (with_is g c),
      length_insert kept.table.rows (c.args.rank - 1) c.args.row (omega (arith, c.requires.low, c.requires.high)),
      c.requires.high,
    )

pub count_from-requires-clause-size : goal.count_from-requires-clause-size
count_from-requires-clause-size g c =
    let kept = c.args.self.now in
    omega (
      arith,
      c.one_more-findings.ensures.size,
      many_kept (g.B.Bound.meaning c.args.bound.now) kept.table.frame kept.table.rows kept.findings.items
          c.requires.counted,
      ap (λ b. length b.rows) (with_is g c),
      length_insert kept.table.rows (c.args.rank - 1) c.args.row (omega (arith, c.requires.low, c.requires.high)),
    )

pub count_from-requires-clause-known : goal.count_from-requires-clause-known
count_from-requires-clause-known g c =
    let m = g.B.Bound.meaning c.args.bound.now in
    let kept = c.args.self.now in
    known_with m kept.table.frame kept.table.rows
    (c.args.rank - 1) c.args.row kept.findings.items c.one_more-findings.result.items
    (omega (arith, c.requires.low, c.requires.high)) c.requires.counted c.one_more-findings.ensures.before
    ∙ ap (λ b. take (c.args.rank - 1) (findings_of m b.frame b.rows)) (sym (with_is g c))
