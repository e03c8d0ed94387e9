use Rattle.std.proofs.Common.{arith}
use Rattle.rows.specs.Times.{horizon}
use Rattle.bounds.specs.Supplied.{staircase}
use Rattle.bounds.proofs.Marking.{least_past, least_past_none}
use Rattle.bounds.proofs.stairs.Staircase.corner_past_rises.Goals as goal

pub returns-then-corner-le-HORIZON : goal.returns-then-corner-le-HORIZON
returns-then-corner-le-HORIZON c =
    let first = c.corner_at-corner.ensures.first in
    least_past ((staircase c.args.self.now.accuracy).is_corner c.args.row.now) horizon c.args.after first (omega arith)
    first.after c.if-corner-le-HORIZON.true

pub returns-else-corner-le-HORIZON : goal.returns-else-corner-le-HORIZON
returns-else-corner-le-HORIZON c =
    let first = c.corner_at-corner.ensures.first in
    least_past_none ((staircase c.args.self.now.accuracy).is_corner c.args.row.now) horizon c.args.after c.args.after
    (λ i low high. first.none i low (omega (arith, c.if-corner-le-HORIZON.false))) (omega arith)
