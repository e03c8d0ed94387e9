-- A task table that was read and counted, and its leaves.
use Rattle.std.specs.Prelude.{◌≡◌, ℕ, ◌<◌, ◌≤◌, ◌⊎◌, ◌-◌, List, [], ◌∷◌, ◌++◌, length, map, take, Option}
use Rattle.std.specs.Prelude.{slice_index_or}
use Rattle.rows.specs.declared.frames.FrameNumbers.{FrameNumbers}
use Rattle.rows.specs.declared.tasks.Row.{Row}
use Rattle.rows.specs.Answers.{Passes}
use Rattle.rows.specs.Judging.{plain, rows_of}
use Rattle.bounds.specs.declared.supplied.Supplied.{Supplied}
use Rattle.bounds.specs.declared.families.Family.{Family}
use Rattle.bounds.specs.declared.families.Family.TheVariants.{ExactSteps as exact_kind}
use Rattle.bounds.specs.Families.{family_meaning}
use Rattle.bounds.specs.Supplied.{exact_steps}
use Rattle.findings.specs.Demand.{load}
use Rattle.leaves.specs.Contents.{Contents, encoding}
use Rattle.filings.specs.Checks.{filing_checks, frame_for}
use Rattle.filings.specs.Filings.{Filed, filed, IsLeafOfCount}
use Rattle.task_tables.specs.declared.tables.TaskTable.{TaskTable}
use Rattle.task_tables.specs.Tables.{ReadsAll, table_names, table_numbers}
use Rattle.plots.specs.declared.questions.Drawing.{Drawing}
use Rattle.plots.specs.Drawn.{drawn_rank, drawn_task, drawn_row, drawn_exact, drawn_bounded}
use Rattle.views.specs.declared.troubles.Trouble.{Trouble}
use Rattle.views.specs.declared.troubles.Trouble.TheVariants as trouble

-- a task table that was read and counted: the table, the frame and the rows that it was judged to be, and the bounds by
-- which these were counted beside exact steps, each told by its kind and the accuracy
pub record CountedTable : Type 0 where
  pub table : TaskTable
  pub frame : FrameNumbers
  pub rows : List Row
  pub bounds : List (Family × ℕ)

-- a counted table, written out
abbrev pub counted_table : TaskTable → FrameNumbers → List Row → List (Family × ℕ) → CountedTable
counted_table table h rows bounds = record { table = table; frame = h; rows = rows; bounds = bounds }

-- its rows on its frame, counted by a bound
abbrev pub counted_by : CountedTable → Family × ℕ → Filed
counted_by c b = filed c.frame b c.rows

-- its rows on its frame, counted in exact steps
abbrev pub in_exact_steps : CountedTable → Filed
in_exact_steps c = counted_by c (exact_kind, 0)

-- and by each of its bounds, in their order
abbrev pub by_bounds : CountedTable → List Filed
by_bounds c = map (counted_by c) c.bounds

-- a table is counted: its numbers pass every check, and its tasks are the rows, in their order, on the frame that is
-- named, or else the common one; and the bounds are those that are named
pub record IsCountOf (frame : Option FrameNumbers) (bounds : List (Family × ℕ)) (c : CountedTable) : Type 0 where
  pub passed : Passes (filing_checks frame bounds (table_numbers c.table))
  pub framed : c.frame ≡ frame_for frame (table_numbers c.table)
  pub rows : c.rows ≡ rows_of (table_numbers c.table)
  pub named : c.bounds ≡ bounds
  pub tasks : map plain c.rows ≡ table_numbers c.table

-- some bytes are the leaf of a counted table: the encoding of its survey by its bound
pub record IsFiledLeaf (f : Filed) (bytes : List ℕ) : Type 0 where
  pub contents : Contents
  pub survey : IsLeafOfCount f contents
  pub encoded : bytes ≡ encoding contents

-- a table has a row of a rank
abbrev pub IsRank : ℕ → CountedTable → Type 0
IsRank rank c = (1 ≤ rank) × (rank ≤ length c.rows)

-- a table that a reader held was counted, and has a row of the rank
pub record HasRank (held : Option (List ℕ)) (frame : Option FrameNumbers) (bounds : List (Family × ℕ))
    (rank : ℕ) : Type 0 where
  pub counted : CountedTable
  pub read : ReadsAll held counted.table
  pub is_count : IsCountOf frame bounds counted
  pub is_rank : IsRank rank counted

-- it is told how many rows a table has, where it has none of a rank
abbrev pub TellsRank : ℕ → CountedTable → Trouble → Type 0
TellsRank rank c (trouble.Rank rows) = (rows ≡ length c.rows) × ((rank ≡ 0) ⊎ (length c.rows < rank))
TellsRank rank c _ = ⊥

-- a drawing is of the row of a rank of a table that was counted, with its name, below the rows before it, in exact
-- steps and by each of the bounds that it was counted by, in their order
pub record IsDrawnOf {g : _} (rank : ℕ) (c : CountedTable) (drawing : Drawing Supplied g) : Type 0 where
  pub ranked : drawn_rank drawing ≡ rank
  pub named : drawn_task drawing ≡ slice_index_or (table_names c.table) (rank - 1) []
  pub row : take rank c.rows ≡ take (rank - 1) c.rows ++ drawn_row drawing ∷ []
  pub exact : drawn_exact drawing
      ≡ load exact_steps c.frame.ticks (drawn_row drawing).work (take (rank - 1) c.rows)
  pub bounded : drawn_bounded drawing
      ≡ map (λ b. load (family_meaning b.0 b.1) c.frame.ticks (drawn_row drawing).work (take (rank - 1) c.rows))
      c.bounds
