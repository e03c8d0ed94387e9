-- What is told of the faults of a table, and of the flaws of its rows.
use Rattle.std.proofs.Common.{◌≡◌, ℕ, true, false, List, Option, refl, ap}
use Rattle.std.specs.Option.{option_map}
use Rattle.bounds.specs.declared.families.Family.{Family}
use Rattle.rows.specs.declared.frames.FrameNumbers.{FrameNumbers}
use Rattle.rows.specs.declared.refusals.Fault.{Fault}
use Rattle.rows.specs.Answers.{first_refusal, refuses}
use Rattle.rows.specs.Judging.{row_flaws, table_flaw_checks}
use Rattle.task_tables.specs.declared.tables.TaskTable.{TaskTable}
use Rattle.task_tables.specs.Tables.{ReadsAll, table_numbers}
use Rattle.views.specs.declared.troubles.Trouble.{Trouble}
use Rattle.views.specs.declared.troubles.Trouble.TheVariants as trouble
use Rattle.views.specs.Troubles.{IsTroubleOf, TellsFault, TellsFlaw, TroubleTells, is_of_row, is_output, of_responses}

-- a fault that is told at a number is a refusal of a row
pub fault_told : (frame : Option FrameNumbers) (bounds : List (Family × ℕ)) (table : TaskTable) (fault : Fault)
    (t : Trouble) → is_of_row fault.refusal ≡ true → TellsFault table fault t
    → TroubleTells frame bounds fault.refusal t
fault_told frame bounds table fault (trouble.Row m) row told = (ap (option_map (λ r. r.refusal)) told.refused, row)
fault_told frame bounds table fault (trouble.Memory e) row told = tt
fault_told frame bounds table fault (trouble.Table e) row told = absurd told
fault_told frame bounds table fault trouble.Frame row told = absurd told
fault_told frame bounds table fault trouble.NoFrame row told = absurd told
fault_told frame bounds table fault (trouble.Accuracy f) row told = absurd told
fault_told frame bounds table fault (trouble.Rank n) row told = absurd told
fault_told frame bounds table fault (trouble.Damaged d) row told = absurd told
fault_told frame bounds table fault (trouble.Different d) row told = absurd told
fault_told frame bounds table fault (trouble.Input e) row told = absurd told
fault_told frame bounds table fault (trouble.Output e) row told = absurd told

-- where the fault is the first flaw of the table, that is told
pub flaw_told : (table : TaskTable) (fault : Fault) (t : Trouble)
    → refuses fault.refusal fault.at ≡ first_refusal (table_flaw_checks row_flaws (table_numbers table))
    → TellsFault table fault t → TellsFlaw table t
flaw_told table fault (trouble.Row m) first told = record { fault = fault; first = first; told = told }
flaw_told table fault (trouble.Memory e) first told = tt
flaw_told table fault (trouble.Table e) first told = absurd told
flaw_told table fault trouble.Frame first told = absurd told
flaw_told table fault trouble.NoFrame first told = absurd told
flaw_told table fault (trouble.Accuracy f) first told = absurd told
flaw_told table fault (trouble.Rank n) first told = absurd told
flaw_told table fault (trouble.Damaged d) first told = absurd told
flaw_told table fault (trouble.Different d) first told = absurd told
flaw_told table fault (trouble.Input e) first told = absurd told
flaw_told table fault (trouble.Output e) first told = absurd told

-- a flaw of the table that was read is a trouble of its response times, and no failure of the output
pub flaw_is : (held : Option (List ℕ)) (table : TaskTable) (t : Trouble) → ReadsAll held table → TellsFlaw table t
    → IsTroubleOf (of_responses held) t × (is_output t ≡ false)
flaw_is held table (trouble.Row m) read told = (record { table = table; read = read; flaw = told }, refl)
flaw_is held table (trouble.Memory e) read told = (tt, refl)
flaw_is held table (trouble.Table e) read told = absurd told
flaw_is held table trouble.Frame read told = absurd told
flaw_is held table trouble.NoFrame read told = absurd told
flaw_is held table (trouble.Accuracy f) read told = absurd told
flaw_is held table (trouble.Rank n) read told = absurd told
flaw_is held table (trouble.Damaged d) read told = absurd told
flaw_is held table (trouble.Different d) read told = absurd told
flaw_is held table (trouble.Input e) read told = absurd told
flaw_is held table (trouble.Output e) read told = absurd told
