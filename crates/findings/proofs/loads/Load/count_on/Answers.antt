use Rattle.std.proofs.Common.{arith}
use Rattle.findings.specs.Loads.{load_of}
use Rattle.findings.proofs.Kept.{anew_ahead}
use Rattle.findings.proofs.loads.Load.count_on.Goals as goal

pub by_blocks-requires-clause-ahead : goal.by_blocks-requires-clause-ahead
by_blocks-requires-clause-ahead g c =
    anew_ahead (load_of c.args.self.now) c.args.seen (omega (arith, c.args.self.now.countable.few))
