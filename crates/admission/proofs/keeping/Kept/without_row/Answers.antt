use Rattle.std.proofs.Common.{◌≡◌, ◌-◌, ◌+◌, ◌<◌, length, subst, sym, ap, ◌∙◌, arith, take}
use Rattle.std.specs.List.{remove}
use Rattle.rows.specs.Books.{book}
use Rattle.rows.proofs.Checks.{when_ok}
use Rattle.rows.proofs.Moved.{length_remove}
use Rattle.findings.specs.Tables.{findings_of}
use Rattle.admission.proofs.Counted.{known_without, many_kept}
use Rattle.admission.proofs.keeping.Kept.without_row.Goals as goal

pub one_less-findings-requires-clause-high : goal.one_less-findings-requires-clause-high
one_less-findings-requires-clause-high g c =
    let kept = c.args.self.now in
    omega (
      arith,
      many_kept (g.B.Bound.meaning c.args.bound.now) kept.table.frame kept.table.rows kept.findings.items
          c.requires.counted,
      c.requires.high,
    )

-- the table without the row
without_is : (g : _) (c : goal.After-findings-1 g)
    → c.take_out.new.self ≡ book c.args.self.now.table.frame (remove c.args.self.now.table.rows (c.args.rank - 1))
without_is g c =
    subst (λ b. c.take_out.new.self ≡ book b.frame (remove b.rows (c.args.rank - 1))) c.copy-table.ensures
    (when_ok _ _ c.take_out.result c.unwrap.result c.unwrap.ensures c.take_out.ensures.taken).1

-- there is one row less
fewer : (g : _) (c : goal.After-findings-1 g) → length c.take_out.new.self.rows + 1 ≡ length c.args.self.now.table.rows
fewer g c =
    ap (λ b. length b.rows + 1) (without_is g c)
    ∙ length_remove c.args.self.now.table.rows (c.args.rank - 1) (omega (arith, c.requires.low, c.requires.high))

pub count_from-requires-clause-within : goal.count_from-requires-clause-within
count_from-requires-clause-within g c = omega (arith, fewer g c, c.requires.low, c.requires.high)

pub count_from-requires-clause-size : goal.count_from-requires-clause-size
count_from-requires-clause-size g c =
    let kept = c.args.self.now in
    let many = many_kept
    (g.B.Bound.meaning c.args.bound.now) kept.table.frame kept.table.rows kept.findings.items c.requires.counted in
    let within : c.args.rank - 1 < length kept.findings.items = omega (arith, many, c.requires.low, c.requires.high) in
    omega (
      arith,
      fewer g c,
      many,
      ap length c.one_less-findings.ensures,
      length_remove kept.findings.items (c.args.rank - 1) within,
    )

pub count_from-requires-clause-known : goal.count_from-requires-clause-known
count_from-requires-clause-known g c =
    let m = g.B.Bound.meaning c.args.bound.now in
    let kept = c.args.self.now in
    known_without m kept.table.frame kept.table.rows
    (c.args.rank - 1) kept.findings.items c.one_less-findings.result.items
    (omega (arith, c.requires.low, c.requires.high)) c.requires.counted c.one_less-findings.ensures
    ∙ ap (λ b. take (c.args.rank - 1) (findings_of m b.frame b.rows)) (sym (without_is g c))
