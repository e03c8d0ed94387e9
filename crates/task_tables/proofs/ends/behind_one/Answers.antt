use Rattle.std.proofs.Common.{arith}
use Rattle.task_tables.specs.Ends.{state_of}
use Rattle.task_tables.specs.Forms.{config_of}
use Rattle.task_tables.proofs.Behind.{behind_is, ended_all, ended_there, goes_on}
use Rattle.task_tables.proofs.ends.behind_one.Goals as goal

pub loop-place-init : goal.loop-place-init
loop-place-init c = behind_is (config_of c.args.form) c.args.text.now

pub loop-place-preserved : goal.loop-place-preserved
loop-place-preserved c =
    goes_on (config_of c.args.form) (state_of c.loop-place.stand)
    (state_of c.in-Some.next) c.args.text.now c.loop-place.place _
    (omega arith) c.loop-place.invariant c.in-Some.ensures.0 c.in-Some.ensures.1

pub returns-in-None-clause-left : goal.returns-in-None-clause-left
returns-in-None-clause-left c =
    ended_there (config_of c.args.form) (state_of c.loop-place.stand) c.args.text.now c.loop-place.place _
    (omega arith) c.loop-place.invariant c.in-None.ensures

pub returns-clause-left : goal.returns-clause-left
returns-clause-left c =
    ended_all (config_of c.args.form) (state_of c.loop-place.stand) c.args.text.now c.loop-place.place
    (omega arith) c.loop-place.invariant
