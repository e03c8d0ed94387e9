use Rattle.std.proofs.Common.{◌≡◌, ◌-◌, ◌*◌, ◌∙◌, min, subst}
use Rattle.rows.specs.Times.{horizon}
use Rattle.bounds.specs.Questions.{row_on}
use Rattle.bounds.proofs.Ends.{first_is_rise}
use Rattle.bounds.proofs.tails.TailBound.corner_past.Goals as goal

pub returns : goal.returns
returns g c =
    let n = (g.L.Late.shape c.args.self.now.late).exact in
    let last = c.last_exact.result in
    let end = subst (λ r. last ≡ min (n * r.period - r.jitter) horizon) c.row.ensures c.last_exact.ensures in
    c.rise_after.ensures ∙ first_is_rise n (row_on c.args.row.now) last end c.args.after
