-- The response times of a task table that was read, as text; and the flaw of one whose numbers are no rows.
use Rattle.std.specs.Prelude.{◌≡◌, ℕ, suc, ◌+◌, List, [], ◌∷◌, ◌++◌, length, map, count_by, codes, decimal}
use Rattle.std.specs.Prelude.{is_some, Option, slice_index_or}
use Rattle.rows.specs.declared.refusals.Fault.{Fault}
use Rattle.rows.specs.declared.tasks.Numbers.{Numbers}
use Rattle.rows.specs.Answers.{first_refusal, refuses}
use Rattle.rows.specs.Judging.{plain, row_flaws, rows_of, table_flaw_checks}
use Rattle.brackets.specs.Responses.{responses_of, TableResponds}
use Rattle.task_tables.specs.declared.misreads.Misread.{Misread}
use Rattle.task_tables.specs.declared.tables.TaskTable.{TaskTable}
use Rattle.task_tables.specs.Explained.{IsExplained}
use Rattle.task_tables.specs.Tables.{ReadsAll, table_names, table_numbers}
use Rattle.task_tables.specs.Tasks.{four_fields}
use Rattle.grids.specs.Aligned.{aligned_text}
use Rattle.grids.specs.Cells.{Headings, Rows}
use Rattle.grids.specs.CsvFields.{headings_of}
use Rattle.grids.specs.Shown.{shown_text}
use Rattle.views.specs.Cells.{number_text, rest_text, slack_left}
use Rattle.views.specs.Ranked.{shown_rows}

-- a row as a person reads it: its rank, name and numbers, the response time or the word that it misses, and the slack
abbrev pub response_texts : ℕ → List ℕ → Numbers → Option ℕ → List (List ℕ)
response_texts rank name n response =
    decimal rank ∷ shown_text name ∷ (four_fields n
    ++ rest_text response ∷ number_text (slack_left n.deadline response) ∷ [])

-- what is told of rows with their response times, in rank order, of which the first stands at a place, counted from 0;
-- the names are those of the whole table
abbrev pub responses_told : List (List ℕ) → ℕ → List Numbers → List (Option ℕ) → List (List (List ℕ))
responses_told names i [] responses = []
responses_told names i (n ∷ ns) [] = []
responses_told names i (n ∷ ns) (response ∷ responses) =
    response_texts (i + 1) (slice_index_or names i []) n response ∷ responses_told names (suc i) ns responses

-- the columns of the table
abbrev pub response_columns : List (List ℕ)
response_columns =
    codes "rank" ∷ codes "name" ∷ codes "C" ∷ codes "D" ∷ codes "T" ∷ codes "J"
    ∷ codes "response" ∷ codes "slack" ∷ []

-- the line below it: how many rows meet in exact steps, those that have a response time
abbrev pub met_line : List (Option ℕ) → List ℕ
met_line responses =
    decimal (count_by is_some responses)
    ++ (codes " of " ++ (decimal (length responses) ++ codes " rows meet in exact steps\n"))

-- a text tells response times: a line for the columns, one for each row in rank order, and how many meet
pub record TellsResponses (table : TaskTable) (responses : List (Option ℕ)) (text : List ℕ) : Type 0 where
  pub headings : Headings
  pub rows : Rows
  pub columns : headings_of headings ≡ response_columns
  pub told : shown_rows rows ≡ responses_told (table_names table) 0 (table_numbers table) responses
  pub parts : text ≡ aligned_text headings rows ++ met_line responses

-- a text is that of the response times of a table: its tasks are rows, and of each row the exact one is told, with no
-- frame, which says what a response time says
pub record IsResponsesText (table : TaskTable) (text : List ℕ) : Type 0 where
  pub tasks : map plain (rows_of (table_numbers table)) ≡ table_numbers table
  pub tells : TellsResponses table (responses_of (rows_of (table_numbers table))) text
  pub says : TableResponds (rows_of (table_numbers table))

-- a text is that of the response times of the table that a reader held
pub record IsResponsesFor (held : Option (List ℕ)) (text : List ℕ) : Type 0 where
  pub table : TaskTable
  pub read : ReadsAll held table
  pub text_is : IsResponsesText table text

-- the numbers of a table are no rows, and the first of their flaws is told where the number stands that it is about:
-- idle row, no window, late deadline and long period, each looked for at every rank before the next
pub record IsFlawOf (table : TaskTable) (m : Misread) : Type 0 where
  pub fault : Fault
  pub first : refuses fault.refusal fault.at ≡ first_refusal (table_flaw_checks row_flaws (table_numbers table))
  pub told : IsExplained table fault m

-- so it is with the table that a reader held
pub record IsFlawFor (held : Option (List ℕ)) (m : Misread) : Type 0 where
  pub table : TaskTable
  pub read : ReadsAll held table
  pub flaw : IsFlawOf table m
