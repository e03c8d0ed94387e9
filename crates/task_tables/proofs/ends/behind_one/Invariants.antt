use Rattle.std.proofs.Common.{◌≡◌, drop}
use Rattle.task_tables.specs.Ends.{state_of}
use Rattle.task_tables.specs.Forms.{config_of}
use Rattle.task_tables.specs.Lines.{behind_one}
use Rattle.task_tables.proofs.Behind.{rest_from}
use Rattle.task_tables.proofs.ends.behind_one.Given as goal

abbrev pub invariant-loop-place : goal.invariant-loop-place
invariant-loop-place l =
    behind_one (config_of l.form) l.text ≡ rest_from (config_of l.form) (state_of l.stand) (drop l.place l.text)
