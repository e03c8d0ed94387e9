use Rattle.std.proofs.Common.{◌≡◌, ◌+◌, ◌*◌, suc, drop, sym, refl, ap, ◌∙◌, arith}
use Rattle.std.specs.Option.{option_map}
use Rattle.std.proofs.lemmas.List.{take_rest}
use Rattle.rows.specs.Lists.{at_rank}
use Rattle.reading.specs.Bodies.{body_of}
use Rattle.reading.proofs.Ranks.{body_found, none_past}
use Rattle.reading.proofs.bodies.body_at.Goals as goal

pub returns-in_err-from-clause-body : goal.returns-in_err-from-clause-body
returns-in_err-from-clause-body c = λ es all same.
    let i = c.in_ok-checked_sub.field-0 in
    let rank : c.args.rank ≡ suc i = omega arith in
    let past = none_past c.args.size c.args.entries.now i es all same (omega (arith, c.in_err-from.ensures)) in
    rw (rank, past, c.from_residual-in_err-from.ensures) refl

pub returns-in_err-get-clause-body : goal.returns-in_err-get-clause-body
returns-in_err-get-clause-body c = λ es all same.
    let i = c.in_ok-checked_sub.field-0 in
    let rank : c.args.rank ≡ suc i = omega arith in
    let past = none_past c.args.size c.args.entries.now i es all same (omega (arith, c.in_err-get.ensures)) in
    rw (rank, past, c.from_residual-in_err-get.ensures) refl

pub returns-clause-body : goal.returns-clause-body
returns-clause-body c = λ es all same.
    let i = c.in_ok-checked_sub.field-0 in
    let rank : c.args.rank ≡ suc i = omega arith in
    let size = c.args.size in
    let part = c.in_ok-get.field-0.now in
    let from : part ≡ drop ((1 + size) * i) c.args.entries.now =
    c.in_ok-get.ensures.lookup.0.2 ∙ take_rest c.args.entries.now c.in_ok-from.from
    ∙ ap (λ n. drop n c.args.entries.now) (omega arith) in
    body_found size c.args.entries.now i es all same part from c.get-2.result c.get-2.ensures.lookup
    ∙ ap (λ n. option_map body_of (at_rank n es)) (sym rank)
