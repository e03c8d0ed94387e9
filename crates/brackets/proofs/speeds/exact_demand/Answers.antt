use Rattle.std.proofs.Common.{rules, ◌≡◌, ◌+◌, arith}
use Rattle.findings.specs.Exact.{exact_demand}
use Rattle.brackets.proofs.Climbing.{demand_small}
use Rattle.brackets.proofs.speeds.exact_demand.Goals as goal

pub overflow_add-result : goal.overflow_add-result
overflow_add-result c =
    let small = demand_small c.args.row.now c.args.above.now c.args.at c.requires.few c.requires.near in
    let whole : c.from.result + c.sum-others.result ≡ exact_demand c.args.row.now c.args.above.now c.args.at =
    search rules in
    rw whole (record { fits = omega arith })
