-- A refusal of a table, told where the number stands that it is about.
use Rattle.std.specs.Prelude.{◌≡◌, ℕ, ◌-◌, ◌==◌, Option, None, Some, option_map, decimal, slice_get, if◌then◌else◌}
use Rattle.std.specs.Option.{option_and_then}
use Rattle.std.specs.String.{string_bytes}
use Rattle.rows.specs.Times.{horizon}
use Rattle.rows.specs.declared.refusals.Fault.{Fault}
use Rattle.rows.specs.declared.refusals.Refusal.{Refusal}
use Rattle.rows.specs.declared.refusals.Refusal.TheVariants.{IdleRow, NoWindow, LateDeadline, LongPeriod, OffFrame}
use Rattle.rows.specs.declared.tasks.Numbers.{Numbers}
use Rattle.task_tables.specs.declared.columns.Column.{Column}
use Rattle.task_tables.specs.declared.columns.Column.TheVariants as column
use Rattle.task_tables.specs.declared.explaining.Complaint.{Complaint}
use Rattle.task_tables.specs.declared.misreads.Expected.{Expected}
use Rattle.task_tables.specs.declared.misreads.Expected.TheVariants as expected
use Rattle.task_tables.specs.declared.misreads.Misread.{Misread}
use Rattle.task_tables.specs.declared.misreads.Spot.{Spot}
use Rattle.task_tables.specs.declared.tables.TaskTable.{TaskTable}
use Rattle.task_tables.specs.Tables.{field_of, table_columns, table_lines, table_numbers}

-- a number of a task under a column, and what was expected there
abbrev pub complaint : Column → ℕ → Expected → Complaint
complaint c n e = record { column = c; number = n; expected = e }

-- what a refusal says of the numbers of a task, where it is one of those about a task
abbrev pub complaint_of : Refusal → Numbers → Option Complaint
complaint_of IdleRow n = Some (complaint column.Work n.work expected.Work)
complaint_of NoWindow n = Some (complaint column.Work n.work (expected.Window n.deadline n.jitter))
complaint_of LateDeadline n = Some (complaint column.Deadline n.deadline (expected.Deadline n.period))
complaint_of LongPeriod n = Some (complaint column.Period n.period (expected.Period horizon))
complaint_of OffFrame n = Some (complaint column.Period n.period expected.Divisor)
complaint_of _ n = None

-- what a fault says of the task at its rank, with the line of that task; nothing, where there is no such rank
abbrev pub told_of : TaskTable → Fault → Option (ℕ × Complaint)
told_of t fault =
    if fault.at == 0 then None
    else option_and_then
    (λ line. option_map (λ c. (line, c))
    (option_and_then (complaint_of fault.refusal) (slice_get (table_numbers t) (fault.at - 1))))
    (slice_get (table_lines t) (fault.at - 1))

-- a spot is where the number of a complaint stands: its line, its field and column, the number in decimal, and what was
-- expected
pub record IsSpotOf (t : TaskTable) (line : ℕ) (c : Complaint) (s : Spot) : Type 0 where
  pub line_is : s.line ≡ line
  pub field_is : s.field ≡ field_of (table_columns t) c.column
  pub column_is : s.column ≡ Some c.column
  pub stood_is : string_bytes s.stood ≡ decimal c.number
  pub expected_is : s.expected ≡ c.expected

-- the spot that is told of what a fault says; none, where it says nothing of a task
abbrev pub IsSpotTold : TaskTable → Option (ℕ × Complaint) → Option Spot → Type 0
IsSpotTold t None s = s ≡ None
IsSpotTold t (Some p) None = ⊥
IsSpotTold t (Some p) (Some s) = IsSpotOf t p.0 p.1 s

-- a fault is told: where the number stands that it is about, and its refusal, with the rank where there is such a
-- number
pub record IsExplained (t : TaskTable) (fault : Fault) (m : Misread) : Type 0 where
  pub spot : IsSpotTold t (told_of t fault) m.spot
  pub refused : m.refused
      ≡ Some (record { refusal = fault.refusal; rank = option_map (λ _. fault.at) (told_of t fault) })
