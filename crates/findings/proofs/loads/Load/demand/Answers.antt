use Rattle.std.proofs.Common.{ℕ, ◌+◌, ap, ap₂, ◌∙◌, arith}
use Rattle.rows.specs.declared.tasks.Row.{Row}
use Rattle.findings.specs.Loads.{load_of}
use Rattle.findings.proofs.Exacts.{part_fits, sum_with}
use Rattle.findings.proofs.loads.Load.demand.Goals as goal

pub overflow_add-demand : goal.overflow_add-demand
overflow_add-demand g c =
    let l = load_of c.args.self.now in
    let amount : Row → ℕ = λ r. l.bound.amount l.frame r c.args.at in
    let asked = c.asked.ensures in
    let more = sum_with amount l.above c.loop-i.i c.amount_asked-demand.result c.loop-i-test.true
    (λ d. c.amount_asked-demand.ensures ∙ ap (λ h. l.bound.amount h c.asked.result.row.now c.asked.result.at)
    asked.frame
    ∙ ap₂ (l.bound.amount l.frame) (asked.row d) asked.at) in
    let laws = g.met.B.Bound.lawful c.args.self.now.bound.now in
    let fits = part_fits l (c.loop-i.i + 1) c.args.at laws c.args.self.now.countable (omega arith) c.requires in
    record { fits = omega (arith, c.loop-i.invariant, more, fits) }

pub loop-i-preserved : goal.loop-i-preserved
loop-i-preserved g c =
    let l = load_of c.args.self.now in
    let amount : Row → ℕ = λ r. l.bound.amount l.frame r c.args.at in
    let asked = c.asked.ensures in
    let more = sum_with amount l.above c.loop-i.i c.amount_asked-demand.result c.loop-i-test.true
    (λ d. c.amount_asked-demand.ensures ∙ ap (λ h. l.bound.amount h c.asked.result.row.now c.asked.result.at)
    asked.frame
    ∙ ap₂ (l.bound.amount l.frame) (asked.row d) asked.at) in
    omega (arith, c.loop-i.invariant, more)
