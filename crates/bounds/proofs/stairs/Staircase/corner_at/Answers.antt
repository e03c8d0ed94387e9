use Rattle.std.proofs.Common.{◌/◌, ◌+◌, ◌*◌, ap, arith}
use Rattle.bounds.proofs.StairWalks.{corner_next, reach_small, reach_some}
use Rattle.bounds.proofs.stairs.Staircase.corner_at.Goals as goal

pub overflow_mul-result : goal.overflow_mul-result
overflow_mul-result c =
    let s = c.args.self.now in
    let r = c.args.row.now in
    let small = reach_small s.accuracy s.low r c.args.after in
    record { fits = omega (arith, ap (λ n. n * r.period) c.requires.stair, small) }

pub overflow_sub-result : goal.overflow_sub-result
overflow_sub-result c =
    let s = c.args.self.now in
    let r = c.args.row.now in
    let past = reach_some s.accuracy s.low r ((c.args.after + r.jitter) / r.period) in
    omega (arith, ap (λ n. n * r.period) c.requires.stair, past)

pub returns-clause-corner : goal.returns-clause-corner
returns-clause-corner c =
    let s = c.args.self.now in
    let r = c.args.row.now in
    let past = reach_some s.accuracy s.low r ((c.args.after + r.jitter) / r.period) in
    omega (arith, ap (λ n. n * r.period) c.requires.stair, past)

pub returns-clause-first : goal.returns-clause-first
returns-clause-first c =
    let s = c.args.self.now in
    let r = c.args.row.now in
    let past = reach_some s.accuracy s.low r ((c.args.after + r.jitter) / r.period) in
    corner_next s.accuracy s.low r c.args.after _ (omega (arith, ap (λ n. n * r.period) c.requires.stair, past))
