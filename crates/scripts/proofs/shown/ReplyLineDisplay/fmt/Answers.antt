use Rattle.std.proofs.Common.{append_assoc}
use Rattle.scripts.proofs.shown.ReplyLineDisplay.fmt.Goals as goal

pub returns-in-Misses-clause-writes : goal.returns-in-Misses-clause-writes
returns-in-Misses-clause-writes g c =
    rw (c.in-Found.is, c.in-Misses.is) (simp append_assoc c.write-in-Misses.ensures.writes)
