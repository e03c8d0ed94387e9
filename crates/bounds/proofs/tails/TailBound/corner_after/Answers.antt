use Rattle.std.proofs.Common.{◌∙◌}
use Rattle.bounds.proofs.Ends.{first_is_rise}
use Rattle.bounds.proofs.tails.TailBound.corner_after.Goals as goal

pub returns : goal.returns
returns g c =
    c.rise_after.ensures
    ∙ first_is_rise (g.L.Late.shape c.args.self.now.late).exact c.args.row.now c.last_exact.result c.last_exact.ensures
    c.args.after
