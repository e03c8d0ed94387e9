-- What is told of a table that is refused.
use Rattle.std.proofs.Common.{◌≡◌, ℕ, ◌<◌, ◌≤◌, Bool, true, false, List, [], ◌∷◌, ◌++◌, length, Option, refl, sym}
use Rattle.std.proofs.Common.{ap, ◌∙◌, arith, subst}
use Rattle.std.specs.Prelude.{◌⊎◌}
use Rattle.std.proofs.lemmas.Bool.{both_ways, le-ltb, not-true}
use Rattle.task_tables.specs.Refusals.{is_misread}
use Rattle.std.proofs.lemmas.List.{length-map}
use Rattle.rows.specs.declared.frames.FrameNumbers.{FrameNumbers}
use Rattle.rows.specs.declared.refusals.Refusal.{Refusal}
use Rattle.rows.specs.declared.refusals.Refusal.TheVariants.{ShortBuffer}
use Rattle.rows.specs.declared.tasks.Numbers.{Numbers}
use Rattle.rows.specs.Answers.{Check, check, checked, first_refusal, refuses, refuses_at}
use Rattle.rows.specs.Judging.{plain}
use Rattle.rows.proofs.Checks.{passes_on, refuses_any}
use Rattle.bounds.specs.declared.families.Family.{Family}
use Rattle.filings.specs.Checks.{filing_checks}
use Rattle.filings.specs.Sheets.{sheet_checks, sheet_length}
use Rattle.task_tables.specs.declared.tables.TaskTable.{TaskTable}
use Rattle.task_tables.specs.Tables.{ReadsAll, table_numbers}
use Rattle.views.specs.declared.troubles.Trouble.{Trouble}
use Rattle.views.specs.declared.troubles.Trouble.TheVariants as trouble
use Rattle.views.specs.Counted.{CountedTable, IsCountOf, TellsRank}
use Rattle.views.specs.Troubles.{IsTroubleOf, TroubleTells, TellsFirst, TellsUncounted, has_no_room, is_output, of_row}
use Rattle.views.specs.Troubles.{of_table}

-- a trouble of a table that was read and is not counted is one of the table
pub table_refused : (held : Option (List ℕ)) (h : Option FrameNumbers) (bs : List (Family × ℕ)) (table : TaskTable)
    (t : Trouble) → ReadsAll held table → TellsUncounted h bs table t → IsTroubleOf (of_table held h bs) t
table_refused held h bs table (trouble.Table e) read refused =
    λ misread. absurd (both_ways (is_misread e) refused misread)
table_refused held h bs table (trouble.Row m) read refused = record { table = table; read = read; refused = refused }
table_refused held h bs table trouble.Frame read refused = record { table = table; read = read; refused = refused }
table_refused held h bs table trouble.NoFrame read refused = record { table = table; read = read; refused = refused }
table_refused held h bs table (trouble.Accuracy family) read refused =
    record { table = table; read = read; refused = refused }
table_refused held h bs table (trouble.Rank n) read refused = absurd refused.told
table_refused held h bs table (trouble.Damaged d) read refused = absurd refused.told
table_refused held h bs table (trouble.Different d) read refused = absurd refused.told
table_refused held h bs table (trouble.Input e) read refused = absurd refused.told
table_refused held h bs table (trouble.Output e) read refused = absurd refused.told
table_refused held h bs table (trouble.Memory e) read refused = record { table = table; read = read; refused = refused }

-- a trouble of a table is one of the row of a rank
pub row_refused : (rank : ℕ) (held : Option (List ℕ)) (h : Option FrameNumbers) (bs : List (Family × ℕ)) (t : Trouble)
    → IsTroubleOf (of_table held h bs) t → IsTroubleOf (of_row rank held h bs) t
row_refused rank held h bs (trouble.Table e) is = is
row_refused rank held h bs (trouble.Row m) is = is
row_refused rank held h bs trouble.Frame is = is
row_refused rank held h bs trouble.NoFrame is = is
row_refused rank held h bs (trouble.Accuracy family) is = is
row_refused rank held h bs (trouble.Rank n) is = absurd is.refused.told
row_refused rank held h bs (trouble.Damaged d) is = is
row_refused rank held h bs (trouble.Different d) is = is
row_refused rank held h bs (trouble.Input e) is = is
row_refused rank held h bs (trouble.Output e) is = is
row_refused rank held h bs (trouble.Memory e) is = is

-- what is told of a refusal is no failure of the output
pub told_no_output : (h : Option FrameNumbers) (bs : List (Family × ℕ)) (r : Refusal) (t : Trouble)
    → TroubleTells h bs r t → is_output t ≡ false
told_no_output h bs r (trouble.Table e) told = refl
told_no_output h bs r (trouble.Row m) told = refl
told_no_output h bs r trouble.Frame told = refl
told_no_output h bs r trouble.NoFrame told = refl
told_no_output h bs r (trouble.Accuracy named) told = refl
told_no_output h bs r (trouble.Rank n) told = refl
told_no_output h bs r (trouble.Damaged d) told = refl
told_no_output h bs r (trouble.Different d) told = refl
told_no_output h bs r (trouble.Input e) told = refl
told_no_output h bs r (trouble.Output e) told = absurd told
told_no_output h bs r (trouble.Memory e) told = refl

-- a first refusal that is told is what is told of a table that is not counted
pub first_uncounted : (h : Option FrameNumbers) (bs : List (Family × ℕ)) (table : TaskTable) (t : Trouble)
    → TellsFirst h bs table t → TellsUncounted h bs table t
first_uncounted h bs table (trouble.Table e) first = absurd first.told
first_uncounted h bs table (trouble.Row m) first = first
first_uncounted h bs table trouble.Frame first = first
first_uncounted h bs table trouble.NoFrame first = first
first_uncounted h bs table (trouble.Accuracy named) first = first
first_uncounted h bs table (trouble.Rank n) first = first
first_uncounted h bs table (trouble.Damaged d) first = first
first_uncounted h bs table (trouble.Different d) first = first
first_uncounted h bs table (trouble.Input e) first = first
first_uncounted h bs table (trouble.Output e) first = first
first_uncounted h bs table (trouble.Memory e) first = first

-- and so is it that there was no room
pub room_uncounted : (h : Option FrameNumbers) (bs : List (Family × ℕ)) (table : TaskTable) (t : Trouble)
    → has_no_room t ≡ true → TellsUncounted h bs table t
room_uncounted h bs table (trouble.Table e) room = not-true (is_misread e) room
room_uncounted h bs table (trouble.Memory e) room = cc
room_uncounted h bs table (trouble.Row m) room = cc
room_uncounted h bs table trouble.Frame room = cc
room_uncounted h bs table trouble.NoFrame room = cc
room_uncounted h bs table (trouble.Accuracy named) room = cc
room_uncounted h bs table (trouble.Rank n) room = cc
room_uncounted h bs table (trouble.Damaged d) room = cc
room_uncounted h bs table (trouble.Different d) room = cc
room_uncounted h bs table (trouble.Input e) room = cc
room_uncounted h bs table (trouble.Output e) room = cc

-- a table that was counted and has no row of a rank lacks it
pub rank_lacking : (rank : ℕ) (held : Option (List ℕ)) (h : Option FrameNumbers) (bs : List (Family × ℕ))
    (c : CountedTable) (t : Trouble) → ReadsAll held c.table → IsCountOf h bs c → TellsRank rank c t
    → IsTroubleOf (of_row rank held h bs) t
rank_lacking rank held h bs c (trouble.Rank n) read count told =
    let same : length c.rows ≡ length (table_numbers c.table) = sym (length-map c.rows plain) ∙ ap length count.tasks in
    record {
      table = c.table;
      read = read;
      passed = count.passed;
      count = told.0 ∙ same;
      lacks =
          subst (λ n. (rank ≡ 0) ⊎ (n < rank)) (sym told.0) told.1;
    }
rank_lacking rank held h bs c (trouble.Table e) read count told = absurd told
rank_lacking rank held h bs c (trouble.Row m) read count told = absurd told
rank_lacking rank held h bs c trouble.Frame read count told = absurd told
rank_lacking rank held h bs c trouble.NoFrame read count told = absurd told
rank_lacking rank held h bs c (trouble.Accuracy family) read count told = absurd told
rank_lacking rank held h bs c (trouble.Damaged d) read count told = absurd told
rank_lacking rank held h bs c (trouble.Different d) read count told = absurd told
rank_lacking rank held h bs c (trouble.Input e) read count told = absurd told
rank_lacking rank held h bs c (trouble.Output e) read count told = absurd told
rank_lacking rank held h bs c (trouble.Memory e) read count told = absurd told

-- a last check that passes leaves what the others say
last_passes : {A : Type 0} (cs : List Check) (wrong : Bool) (n : Refusal) (at : ℕ) (y : A) → wrong ≡ false
    → checked (cs ++ check wrong n at ∷ []) y ≡ checked cs y
last_passes [] wrong n at y right = passes_on wrong n at (checked [] y) right
last_passes (c ∷ cs) wrong n at y right = ap (λ o. refuses_at c.refusal c.at o) (last_passes cs wrong n at y right)

-- where a buffer has room for every sheet, a sheet is refused as its table is
pub sheet_refused : (frame : Option FrameNumbers) (bound : Family × ℕ) (ns : List Numbers) (size : ℕ) (n : Refusal)
    (at y : ℕ) → size ≡ 551 → length ns ≤ 32 → refuses n at ≡ checked (sheet_checks frame bound ns size) y
    → refuses n at ≡ first_refusal (filing_checks frame (bound ∷ []) ns)
sheet_refused frame bound ns size n at y room few refused =
    let fits : sheet_length ns ≤ size = omega (arith, room, few) in
    refuses_any (filing_checks frame (bound ∷ []) ns) n at y
    (refused
    ∙ last_passes (filing_checks frame (bound ∷ []) ns) _ ShortBuffer 0 y (le-ltb size (sheet_length ns) fits)) tt
