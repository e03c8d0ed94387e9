use Rattle.std.proofs.Common.{◌≡◌, rules}
use Rattle.scripts.specs.PlayState.{progress_of, written_at_end}
use Rattle.scripts.proofs.Beginnings.{Begun-same}
use Rattle.scripts.proofs.player.Player.end_line.Goals as goal

pub returns-clause-begun : goal.returns-clause-begun
returns-clause-begun g c =
    let same : c.bytes-2.result.now ≡ written_at_end (progress_of c.args.self.now) = search rules in
    Begun-same _ _ _ _ _ same c.write_whole.ensures.begun
