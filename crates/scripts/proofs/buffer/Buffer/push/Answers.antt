use Rattle.std.proofs.Common.{arith}
use Rattle.scripts.specs.Buffers.{room}
use Rattle.scripts.proofs.Kept.{pushed, full}
use Rattle.scripts.proofs.buffer.Buffer.push.Goals as goal

pub returns-then-self-lt-ROOM : goal.returns-then-self-lt-ROOM
returns-then-self-lt-ROOM c =
    let b = c.self.inside in
    rw (← c.self.view_is) (pushed b.bytes b.count room c.args.byte c.self.invariant.places (omega arith))

pub returns-else-self-lt-ROOM : goal.returns-else-self-lt-ROOM
returns-else-self-lt-ROOM c =
    let b = c.self.inside in
    rw (← c.self.view_is)
    (full b.bytes b.count room c.args.byte c.self.invariant.places c.self.invariant.within (omega arith))
