use Rattle.reading.proofs.Once.{takes_once}
use Rattle.reading.proofs.Steps.{step_sound}
use Rattle.reading.specs.Readers.{reading_of}
use Rattle.reading.proofs.readers.Reader.next_entry.Goals as goal

pub invariant_of-self : goal.invariant_of-self
invariant_of-self c =
    let taken = rw c.in-Some.is at c.in_ok-taken.ensures.taken in
    record { sound = step_sound taken.step c.args.self.now.sound }

pub returns-in_err-taken-clause-once : goal.returns-in_err-taken-clause-once
returns-in_err-taken-clause-once c = takes_once (reading_of c.args.self.now) c.args.self.now.sound

pub returns-in-Some-clause-once : goal.returns-in-Some-clause-once
returns-in-Some-clause-once c = takes_once (reading_of c.args.self.now) c.args.self.now.sound
