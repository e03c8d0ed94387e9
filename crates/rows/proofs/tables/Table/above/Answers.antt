use Rattle.std.proofs.Common.{sym, subst}
use Rattle.rows.specs.Books.{IsJudged, book}
use Rattle.rows.proofs.Standing.{judged_first}
use Rattle.rows.proofs.tables.Table.above.Goals as goal

pub invariant_of-above : goal.invariant_of-above
invariant_of-above c =
    let h = c.above.inside.frame in
    subst (λ rows. IsJudged (book h rows)) (sym c.truncate.ensures.items)
    (judged_first h c.above.inside.rows.items c.saturating_sub.result c.above.invariant)
