use Rattle.std.proofs.Common.{◌+◌, ap₂, ◌∙◌, arith}
use Rattle.rows.specs.Counting.{steps}
use Rattle.findings.specs.Loads.{load_of}
use Rattle.findings.proofs.Exacts.{part_small, sum_with}
use Rattle.findings.proofs.loads.Load.exact.Goals as goal

pub overflow_add-demand : goal.overflow_add-demand
overflow_add-demand g c =
    let l = load_of c.args.self.now in
    let more = sum_with (λ r. steps r c.args.at) l.above c.loop-i.i c.steps-demand.result c.loop-i-test.true
    (λ d. c.steps-demand.ensures.answered ∙ ap₂ steps (c.asked.ensures.row d) c.asked.ensures.at) in
    record {
      fits = omega (
        arith,
        c.loop-i.invariant,
        more,
        part_small l
            (c.loop-i.i + 1) c.args.at c.args.self.now.small c.args.self.now.countable.few c.requires.near,
      );
    }

pub loop-i-preserved : goal.loop-i-preserved
loop-i-preserved g c =
    let l = load_of c.args.self.now in
    let more = sum_with (λ r. steps r c.args.at) l.above c.loop-i.i c.steps-demand.result c.loop-i-test.true
    (λ d. c.steps-demand.ensures.answered ∙ ap₂ steps (c.asked.ensures.row d) c.asked.ensures.at) in
    omega (arith, c.loop-i.invariant, more)
