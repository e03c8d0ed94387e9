use Rattle.std.proofs.Common.{◌≡◌, suc, ◌+◌, ◌∷◌, drop, sym, ap, ◌∙◌, arith}
use Rattle.rows.specs.Lists.{at_rank}
use Rattle.reading.specs.Told.{told, all_told}
use Rattle.reading.proofs.Each.{one_left}
use Rattle.reading.proofs.held.RowsWithFindingsIterator.next.Goals as goal

pub returns-clause-steps : goal.returns-clause-steps
returns-clause-steps c =
    let n = c.args.self.now.seen in
    let xs = all_told c.args.self.now.leaf in
    let first = told c.in_ok-told.told in
    let rank : c.from.result + 1 ≡ suc n = omega (arith, c.from.ensures) in
    let next : n + 1 ≡ suc n = omega arith in
    one_left n xs first (c.in_ok-told.ensures.answered ∙ ap (λ m. at_rank m xs) rank)
    ∙ ap (λ m. first ∷ drop m xs) (sym next)
