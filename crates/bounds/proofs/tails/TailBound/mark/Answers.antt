use Rattle.std.proofs.Common.{◌+◌, ◌∙◌, length}
use Rattle.bounds.proofs.Ends.{first_is_rise}
use Rattle.bounds.proofs.tails.TailBound.mark.Goals as goal

pub returns-clause-past : goal.returns-clause-past
returns-clause-past g c =
    c.mark_rises.ensures.past
    ∙ first_is_rise (g.L.Late.shape c.args.self.now.late).exact c.args.row.now c.last_exact.result c.last_exact.ensures
    (c.args.after + length c.args.marks.now)
