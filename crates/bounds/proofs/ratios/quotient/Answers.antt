use Rattle.std.proofs.Common.{◌+◌, ◌-◌, ◌*◌, ◌/◌, ◌<◌, ◌≤◌, ◌∙◌, ap, ap₂, subst, arith}
use Rattle.bounds.proofs.Quotients.{not_above, is_told, is_next}
use Rattle.bounds.proofs.ratios.quotient.Goals as goal

pub overflow_sub-x : goal.overflow_sub-x
overflow_sub-x c =
    let is = ap₂ (λ x m. x * m / 4294967296) c.from.ensures (c.from-2.ensures ∙ c.requires.known) in
    rw is (not_above c.args.x c.args.row.now.period (omega arith))

pub returns-then-x-told : goal.returns-then-x-told
returns-then-x-told c =
    let is = ap₂ (λ x m. x * m / 4294967296) c.from.ensures (c.from-2.ensures ∙ c.requires.known) in
    let p = c.args.row.now.period in
    is ∙ is_told c.args.x p (omega arith) (subst (λ q. c.args.x - q * p < p) is c.if-x-told.true)

pub returns-else-x-told : goal.returns-else-x-told
returns-else-x-told c =
    let is = ap₂ (λ x m. x * m / 4294967296) c.from.ensures (c.from-2.ensures ∙ c.requires.known) in
    let p = c.args.row.now.period in
    ap (λ q. q + 1) is ∙ is_next c.args.x p (omega arith) (omega arith)
    (subst (λ q. p ≤ c.args.x - q * p) is c.if-x-told.false)
