use Rattle.std.proofs.Common.{arith}
use Rattle.rows.specs.Counting.{is_rise}
use Rattle.bounds.proofs.Marking.{least_past, least_past_none}
use Rattle.bounds.proofs.releases.rise_after.Goals as goal

pub returns-then-after-last : goal.returns-then-after-last
returns-then-after-last c =
    least_past_none (is_rise c.args.row.now) c.args.last c.args.after c.args.after
    (λ i low high. absurd (omega (arith, c.if-after-last.true))) (omega arith)

pub returns-then-rise-last : goal.returns-then-rise-last
returns-then-rise-last c =
    least_past (is_rise c.args.row.now) c.args.last c.args.after c.next_rise-rise.ensures (omega arith)
    c.next_rise-rise.ensures.after c.if-rise-last.true

pub returns-else-rise-last : goal.returns-else-rise-last
returns-else-rise-last c =
    least_past_none (is_rise c.args.row.now) c.args.last c.args.after c.args.after
    (λ i low high. c.next_rise-rise.ensures.none i low (omega (arith, c.if-rise-last.false))) (omega arith)
