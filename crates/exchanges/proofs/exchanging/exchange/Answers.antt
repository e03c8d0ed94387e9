use Rattle.admission.specs.Replies.{as_done}
use Rattle.exchanges.proofs.PutBack.{answered, as_before, is_back, where_refused, on_refusal}
use Rattle.exchanges.proofs.exchanging.exchange.Goals as goal

pub unwrap-requires : goal.unwrap-requires
unwrap-requires g c =
    is_back g.B.Bound.meaning c.args.bench.now c.dismiss.new.self c.args.rank c.in_ok-old.old c.in_ok-old.field-0-1
    c.in_ok-old.ensures.does c.in_ok-old.ensures.told (as_done c.dismiss.result) c.dismiss.ensures.does
    c.in_ok-old.ensures.stand c.in_ok-old.ensures.meet
    c.admit-answer.new.self c.admit.new.self
    (where_refused c.admit-answer.result c.if-is_err.ensures.value c.admit-answer.ensures.refused)
    c.numbers.result c.numbers.ensures c.admit.result c.admit.ensures.does

pub returns-then-is_err-clause-answered : goal.returns-then-is_err-clause-answered
returns-then-is_err-clause-answered g c =
    answered g.B.Bound.meaning c.args.bench.now c.dismiss.new.self c.args.rank c.in_ok-old.old c.in_ok-old.field-0-1
    c.in_ok-old.ensures.does c.in_ok-old.ensures.told (as_done c.dismiss.result) c.dismiss.ensures.does
    c.args.numbers c.admit-answer.new.self c.admit-answer.result c.admit-answer.ensures.does

pub returns-then-is_err-clause-refused : goal.returns-then-is_err-clause-refused
returns-then-is_err-clause-refused g c =
    on_refusal c.admit-answer.result
    (as_before g.B.Bound.meaning c.args.bench.now c.dismiss.new.self c.args.rank c.in_ok-old.old c.in_ok-old.field-0-1
    c.in_ok-old.ensures.does c.in_ok-old.ensures.told (as_done c.dismiss.result) c.dismiss.ensures.does
    c.in_ok-old.ensures.stand c.in_ok-old.ensures.meet
    c.admit-answer.new.self c.admit.new.self
    (where_refused c.admit-answer.result c.if-is_err.ensures.value c.admit-answer.ensures.refused)
    c.numbers.result c.numbers.ensures c.admit.result c.admit.ensures.does)
