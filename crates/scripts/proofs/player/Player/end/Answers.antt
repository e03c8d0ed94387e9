use Rattle.scripts.proofs.Beginnings.{Begun-flushed}
use Rattle.scripts.proofs.player.Player.end.Goals as goal

pub returns-clause-begun : goal.returns-clause-begun
returns-clause-begun g c = Begun-flushed c.flush.result _ _ _ _ c.in_ok-end_last.ensures.written c.flush.ensures.bytes
