use Rattle.std.proofs.Common.{◌≡◌, ◌-◌, ◌<◌, ◌++◌, drop, length, subst, sym, ◌∙◌, arith}
use Rattle.std.specs.List.{remove}
use Rattle.rows.specs.Books.{IsJudged, book}
use Rattle.rows.proofs.Checks.{when_ok}
use Rattle.rows.proofs.Moved.{out_cut}
use Rattle.rows.proofs.Ranked.{ranked}
use Rattle.rows.proofs.Standing.{judged_without}
use Rattle.rows.proofs.tables.Table.take_out.Goals as goal

pub invariant_of-self : goal.invariant_of-self
invariant_of-self c =
    let h = c.self.inside.frame in
    let rows = c.self.inside.rows.items in
    let k = c.args.rank - 1 in
    let rank = ranked c.len-count.result c.args.rank c.in_ok-check_rank.ensures in
    let within : k < length rows = omega (arith, rank.0, rank.1, c.len-count.ensures.value) in
    let list = c.take_out.new.list in
    let lent = when_ok _ _ c.take_out.result c.unwrap.result c.unwrap.ensures c.take_out.ensures.taken in
    let out = subst (λ xs. list ≡ remove xs k ++ drop (length xs - 1) xs) c.as_mut_slice.ensures.value lent in
    subst (λ xs. IsJudged (book h xs))
    (sym (c.truncate.ensures.items
    ∙ out_cut rows list _ k (c.len-count.result - 1) (length rows)
    (omega (arith, rank.0, rank.1, c.len-count.ensures.value)) (omega (arith, rank.1))
    (omega (arith, c.len-count.ensures.value)) out))
    (judged_without h rows k within c.self.invariant)
