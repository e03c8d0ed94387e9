use Rattle.std.proofs.Common.{◌≡◌, ◌*◌}
use Rattle.rows.specs.Times.{ceiling}
use Rattle.rows.proofs.Ceiling.{ceiling_by_quotient}
use Rattle.findings.specs.Exact.{exact_demand}
use Rattle.brackets.proofs.Climbing.{demand_small, product_fits, served_fits}
use Rattle.brackets.proofs.speeds.served_by.Goals as goal

-- the quotient rounded up, of what is demanded
served_is : (c : goal.After-div_ceil)
    → c.div_ceil.result
    ≡ ceiling (c.args.speed.within * exact_demand c.args.row.now c.args.above.now c.args.at) c.args.speed.served
served_is c =
    let quotient =
    ceiling_by_quotient
    (c.args.speed.within * exact_demand c.args.row.now c.args.above.now c.args.at) c.args.speed.served
    c.args.speed.some in
    rw (c.div_ceil.ensures, c.from.ensures, c.from-2.ensures, c.exact_demand.ensures) quotient

pub overflow_mul-scaled : goal.overflow_mul-scaled
overflow_mul-scaled c =
    let small = demand_small c.args.row.now c.args.above.now c.args.at c.requires.few c.requires.near in
    rw (c.from.ensures, c.exact_demand.ensures)
    (record { fits = product_fits c.args.speed.within _ c.args.speed.small small })

pub overflow_cast-result : goal.overflow_cast-result
overflow_cast-result c =
    let small = demand_small c.args.row.now c.args.above.now c.args.at c.requires.few c.requires.near in
    rw (served_is c)
    (record {
      fits =
          served_fits c.args.speed.served c.args.speed.within _ c.args.speed.some c.args.speed.near small;
    })

pub returns : goal.returns
returns c = served_is c
