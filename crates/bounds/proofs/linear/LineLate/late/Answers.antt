use Rattle.std.proofs.Common.{arith}
use Rattle.bounds.proofs.linear.LineLate.late.Goals as goal

pub returns : goal.returns
returns c =
    rw (
      c.from.ensures,
      c.from-work.ensures,
      c.from-2.ensures,
      c.from-times.ensures,
      c.frame-frame.ensures.answered,
      c.row-row.ensures.answered,
      c.at.ensures.answered,
    )
    (omega arith)
