-- What each trouble means.
use Rattle.std.specs.Prelude.{◌≡◌, ◌≢◌, ℕ, ◌<◌, ◌≤◌, ◌⊎◌, Bool, true, false, List, [], ◌∷◌, length, take, is_some, Some}
use Rattle.std.specs.Prelude.{None, Option, not, string_bytes, if◌then◌else◌}
use Rattle.std.specs.Io.KnownBytes.{Appends, Keeps}
use Rattle.std.specs.IoError.{error_kind}
use Rattle.std.specs.declared.io.ErrorKind.TheVariants.{Interrupted}
use Rattle.rows.specs.declared.frames.FrameNumbers.{FrameNumbers}
use Rattle.rows.specs.declared.refusals.Fault.{Fault}
use Rattle.rows.specs.declared.refusals.Refusal.{Refusal}
use Rattle.rows.specs.declared.refusals.Refusal.TheVariants.{BadFrame, BadAccuracy}
use Rattle.rows.specs.Answers.{refuses, first_refusal, Passes}
use Rattle.bounds.specs.declared.families.Family.{Family}
use Rattle.bounds.specs.Families.{can_have}
use Rattle.leaves.specs.Contents.{Contents}
use Rattle.reading.specs.Whole.{Fits}
use Rattle.filings.specs.Checks.{filing_checks}
use Rattle.task_tables.specs.declared.tables.TaskTable.{TaskTable}
use Rattle.task_tables.specs.Explained.{IsExplained}
use Rattle.task_tables.specs.Misreads.{refusal_told}
use Rattle.task_tables.specs.Refusals.{ReadsNone, is_misread}
use Rattle.streams.specs.Held.{MayHold}
use Rattle.task_tables.specs.Tables.{ReadsAll, table_numbers}
use Rattle.views.specs.declared.damage.Damage.{Damage}
use Rattle.views.specs.declared.troubles.Trouble.{Trouble}
use Rattle.views.specs.declared.troubles.Trouble.TheVariants as trouble
use Rattle.views.specs.Differences.{Differ}
use Rattle.views.specs.Leaves.{HeldBoth, HeldLeaf}
use Rattle.views.specs.Responded.{IsFlawFor, IsFlawOf}

-- a refusal is about a row: neither about the frame nor about the accuracy
abbrev pub is_of_row : Refusal → Bool
is_of_row BadFrame = false
is_of_row BadAccuracy = false
is_of_row _ = true

-- the kind of the first bound whose accuracy is bad, among those that are named
abbrev pub bad_kind : List (Family × ℕ) → Option Family
bad_kind [] = None
bad_kind (b ∷ bounds) = if can_have b.0 b.1 then bad_kind bounds else Some b.0

-- a trouble tells a refusal of numbers: a bad frame that was named, or that there is none where none was named; the
-- first bad accuracy, by the kind of bound that it is named for; or that of a row. Where memory ran out, it is not told
abbrev pub TroubleTells : Option FrameNumbers → List (Family × ℕ) → Refusal → Trouble → Type 0
TroubleTells frame bounds refusal trouble.Frame = (is_some frame ≡ true) × (refusal ≡ BadFrame)
TroubleTells frame bounds refusal trouble.NoFrame = (frame ≡ None) × (refusal ≡ BadFrame)
TroubleTells frame bounds refusal (trouble.Accuracy named) = (bad_kind bounds ≡ Some named) × (refusal ≡ BadAccuracy)
TroubleTells frame bounds refusal (trouble.Row m) = (refusal_told m ≡ Some refusal) × (is_of_row refusal ≡ true)
TroubleTells frame bounds refusal (trouble.Memory e) = Unit {0}
TroubleTells frame bounds refusal _ = ⊥

-- a trouble tells a fault of a table: at the number of a task that it is about, where memory does not run out
abbrev pub TellsFault : TaskTable → Fault → Trouble → Type 0
TellsFault table fault (trouble.Row m) = IsExplained table fault m
TellsFault table fault (trouble.Memory e) = Unit {0}
TellsFault table fault _ = ⊥

-- the numbers of a table are no rows, and a trouble tells the first of their flaws, where memory does not run out
abbrev pub TellsFlaw : TaskTable → Trouble → Type 0
TellsFlaw table (trouble.Row m) = IsFlawOf table m
TellsFlaw table (trouble.Memory e) = Unit {0}
TellsFlaw table _ = ⊥

-- the numbers of a table are refused, on the frame and by the bounds that are named, and the first of the refusals is
-- told
pub record TellsFirst (frame : Option FrameNumbers) (bounds : List (Family × ℕ)) (table : TaskTable)
    (t : Trouble) : Type 0 where
  pub refusal : Refusal
  pub at : ℕ
  pub first : refuses refusal at ≡ first_refusal (filing_checks frame bounds (table_numbers table))
  pub told : TroubleTells frame bounds refusal t

-- a trouble tells the first refusal of the table that was read
pub record TellsRefusal (held : Option (List ℕ)) (frame : Option FrameNumbers) (bounds : List (Family × ℕ))
    (t : Trouble) : Type 0 where
  pub table : TaskTable
  pub read : ReadsAll held table
  pub refused : TellsFirst frame bounds table t

-- a table was read that is not counted: a trouble tells the first refusal, or that there was no memory for a table that
-- passes its checks, which is told as of one that could not be read
abbrev pub TellsUncounted : Option FrameNumbers → List (Family × ℕ) → TaskTable → Trouble → Type 0
TellsUncounted frame bounds table (trouble.Table e) = is_misread e ≡ false
TellsUncounted frame bounds table t = TellsFirst frame bounds table t

-- a table that was read passes its checks and has so many rows, and none of this rank
pub record LacksRank (held : Option (List ℕ)) (frame : Option FrameNumbers) (bounds : List (Family × ℕ))
    (rank rows : ℕ) : Type 0 where
  pub table : TaskTable
  pub read : ReadsAll held table
  pub passed : Passes (filing_checks frame bounds (table_numbers table))
  pub count : rows ≡ length (table_numbers table)
  pub lacks : (rank ≡ 0) ⊎ (rows < rank)

-- bytes are no leaf, and are refused as the damage tells
pub record IsDamaged (name : List ℕ) (held : Option (List ℕ)) (d : Damage) : Type 0 where
  pub named : string_bytes d.name ≡ name
  pub bytes : List ℕ
  pub all : MayHold held bytes
  pub refused : Fits bytes (refuses d.fault.refusal d.fault.at)

-- what is told of bytes of a name that are refused as no leaf, where memory does not run out
abbrev pub TellsDamage : List ℕ → Fault → Trouble → Type 0
TellsDamage name fault (trouble.Damaged d) = (string_bytes d.name ≡ name) × (d.fault ≡ fault)
TellsDamage name fault (trouble.Memory e) = Unit {0}
TellsDamage name fault _ = ⊥

-- what is told of two leaves that cannot be compared, where memory does not run out
abbrev pub TellsDifference : Contents → Contents → Trouble → Type 0
TellsDifference c d (trouble.Different difference) = Differ difference c d
TellsDifference c d (trouble.Memory e) = Unit {0}
TellsDifference c d _ = ⊥

-- what a view is of: a table that a reader holds, with the frame and the bounds that are named; the row of a rank of
-- such a table; the response times of a table that a reader holds; two leaves that readers hold, by their names; one
-- leaf; or what was read before
pub data Subject : Type 0 where
  of_table : Option (List ℕ) → Option FrameNumbers → List (Family × ℕ) → Subject
  of_row : ℕ → Option (List ℕ) → Option FrameNumbers → List (Family × ℕ) → Subject
  of_responses : Option (List ℕ) → Subject
  of_leaves : List ℕ → Option (List ℕ) → List ℕ → Option (List ℕ) → Subject
  of_leaf : Subject
  of_nothing : Subject

-- what a trouble means, by what the view is of. A table cannot be read: then its text is none, where that is what is
-- told. Its numbers are refused, or are no rows. It has no row of the rank. A leaf is damaged, the first or else the
-- second. Two leaves differ. An input fails, other than by being interrupted. Of memory nothing is said, and no other
-- trouble can be
abbrev pub IsTroubleOf : Subject → Trouble → Type 0
IsTroubleOf (of_table held h bs) (trouble.Table e) = is_misread e ≡ true → ReadsNone held
IsTroubleOf (of_table held h bs) t = TellsRefusal held h bs t
IsTroubleOf (of_row rank held h bs) (trouble.Table e) = is_misread e ≡ true → ReadsNone held
IsTroubleOf (of_row rank held h bs) (trouble.Rank rows) = LacksRank held h bs rank rows
IsTroubleOf (of_row rank held h bs) t = TellsRefusal held h bs t
IsTroubleOf (of_responses held) (trouble.Table e) = is_misread e ≡ true → ReadsNone held
IsTroubleOf (of_responses held) (trouble.Row m) = IsFlawFor held m
IsTroubleOf (of_responses held) (trouble.Memory e) = Unit {0}
IsTroubleOf (of_responses held) _ = ⊥
IsTroubleOf (of_leaves a one b other) (trouble.Damaged d) =
    IsDamaged a one d ⊎ (HeldLeaf one true × IsDamaged b other d)
IsTroubleOf (of_leaves a one b other) (trouble.Different d) = HeldBoth (Differ d) one other
IsTroubleOf (of_leaves a one b other) (trouble.Input e) = error_kind e ≢ Interrupted
IsTroubleOf (of_leaves a one b other) (trouble.Memory e) = Unit {0}
IsTroubleOf (of_leaves a one b other) _ = ⊥
IsTroubleOf of_leaf (trouble.Input e) = error_kind e ≢ Interrupted
IsTroubleOf of_leaf (trouble.Memory e) = Unit {0}
IsTroubleOf of_leaf _ = ⊥
IsTroubleOf of_nothing (trouble.Memory e) = Unit {0}
IsTroubleOf of_nothing _ = ⊥

-- there was no memory for a table
abbrev pub has_no_room : Trouble → Bool
has_no_room (trouble.Table e) = not (is_misread e)
has_no_room _ = false

-- a trouble of writing, and not of what came before
abbrev pub is_output : Trouble → Bool
is_output (trouble.Output e) = true
is_output _ = false

-- a view was written: what a writer holds grew by its bytes
abbrev pub Writes : (List ℕ → Type 0) → Option (List ℕ) → Option (List ℕ) → Type 0
Writes IsView old new = (bytes : List ℕ) × IsView bytes × Appends old new bytes

-- writing it failed: what a writer holds grew by the first of its bytes
abbrev pub Begins : (List ℕ → Type 0) → Option (List ℕ) → Option (List ℕ) → Type 0
Begins IsView old new = (bytes : List ℕ) × IsView bytes × (n : ℕ) × (n ≤ length bytes) × Appends old new (take n bytes)

-- a view failed before it was written: the trouble is one of what it is of, and the writer is as it was
abbrev pub FailsBefore : Subject → Option (List ℕ) → Option (List ℕ) → Trouble → Type 0
FailsBefore of old new t = is_output t ≡ false → IsTroubleOf of t × Keeps old new

-- a view failed: before it was written, or where it was
pub record Fails (IsView : List ℕ → Type 0) (of : Subject) (old new : Option (List ℕ)) (t : Trouble) : Type 0 where
  pub before : FailsBefore of old new t
  pub amid : is_output t ≡ true → Begins IsView old new
