-- The tasks of a table told with their response times, and which refusal a table has that has none.
use Rattle.std.proofs.Common.{◌≡◌, ℕ, zero, suc, ◌+◌, ◌<◌, ◌≤◌, List, [], ◌∷◌, ◌++◌, length, map, take, slice_index_or}
use Rattle.std.proofs.Common.{Option, sym, ap, ap₂, ◌∙◌, arith, subst}
use Rattle.std.specs.Prelude.{Vec}
use Rattle.std.specs.declared.alloc.Global.{Global}
use Rattle.std.proofs.lemmas.Bool.{le-ltb}
use Rattle.std.proofs.lemmas.List.{length-map, map-append}
use Rattle.rows.specs.declared.refusals.Refusal.{Refusal}
use Rattle.rows.specs.declared.refusals.Refusal.TheVariants.{FullTable, ShortList}
use Rattle.rows.specs.declared.tasks.Numbers.{Numbers}
use Rattle.rows.specs.Answers.{first_refusal, refuses, checked}
use Rattle.rows.specs.Judging.{plain, row_flaws, rows_of, table_flaw_checks}
use Rattle.rows.specs.Lists.{written}
use Rattle.rows.proofs.Checks.{passes_on, refuses_any}
use Rattle.brackets.specs.Responses.{response_checks, responses_of, TableResponds}
use Rattle.brackets.proofs.Responses.{length_responses_below}
use Rattle.writing.proofs.Written.{take_written}
use Rattle.task_tables.specs.declared.tables.TaskTable.{TaskTable}
use Rattle.task_tables.specs.Tables.{table_numbers}
use Rattle.grids.specs.Cells.{Rows}
use Rattle.grids.specs.Shown.{shown_of}
use Rattle.grids.specs.declared.cells.Cell.{Cell}
use Rattle.views.specs.Ranked.{shown_rows}
use Rattle.views.specs.Responded.{IsResponsesText, TellsResponses, response_texts, responses_told}

-- what is told of the task at a place, whose rank is one more
abbrev told_at : List (List ℕ) → ℕ → Numbers → Option ℕ → List (List ℕ)
told_at names i n o = response_texts (i + 1) (slice_index_or names i []) n o

-- one task more is told behind those before
told_step : (names : List (List ℕ)) (k i : ℕ) (ns : List Numbers) (os : List (Option ℕ)) (n : Numbers) (o : Option ℕ)
    → i < length ns → i < length os
    → responses_told names k (take (suc i) ns) (take (suc i) os)
    ≡ responses_told names k (take i ns) (take i os)
    ++ told_at names (i + k) (slice_index_or ns i n) (slice_index_or os i o) ∷ []
told_step names k i [] os n o stands responds = absurd (omega (arith, stands))
told_step names k i (m ∷ ns) [] n o stands responds = absurd (omega (arith, responds))
told_step names k zero (m ∷ ns) (p ∷ os) n o stands responds =
    let here : k ≡ 0 + k = omega arith in ap (λ j. told_at names j m p ∷ []) here
told_step names k (suc i) (m ∷ ns) (p ∷ os) n o stands responds =
    let later : i + suc k ≡ suc i + k = omega arith in
    let next = told_step names (suc k) i ns os n o (omega (arith, stands)) (omega (arith, responds)) in
    let behind : ℕ → List (List (List ℕ)) = λ j. responses_told names (suc k) (take i ns) (take i os)
    ++ told_at names j (slice_index_or ns i n) (slice_index_or os i o) ∷ [] in
    ap (λ texts. told_at names k m p ∷ texts) (next ∙ ap behind later)

-- as a loop has it, place by place
pub told_next : (names : List (List ℕ)) (name : List ℕ) (i : ℕ) (ns ms : List Numbers) (os : List (Option ℕ))
    (rows new : Rows) (cells : Vec Cell Global) (n : Numbers) (o : Option ℕ) → i < length ns → i < length os
    → name ≡ slice_index_or names i [] → ms ≡ ns
    → shown_rows rows ≡ responses_told names 0 (take i ns) (take i os)
    → map shown_of cells.items ≡ response_texts (i + 1) name (slice_index_or ms i n) (slice_index_or os i o)
    → new ≡ rows ++ cells ∷ []
    → shown_rows new ≡ responses_told names 0 (take (i + 1) ns) (take (i + 1) os)
told_next names name i ns ms os rows new cells n o stands responds named same before told grown =
    let up : i + 1 ≡ suc i = omega arith in
    let here : i ≡ i + 0 = omega arith in
    let own = ap₂ (λ x xs. response_texts (i + 1) x (slice_index_or xs i n) (slice_index_or os i o)) named same in
    let at = ap (λ j. told_at names j (slice_index_or ns i n) (slice_index_or os i o)) here in
    ap shown_rows grown
    ∙ map-append (λ row. map shown_of row.items) rows (cells ∷ [])
    ∙ ap₂ (λ xs x. xs ++ x ∷ []) before (told ∙ own ∙ at)
    ∙ sym (ap (λ j. responses_told names 0 (take j ns) (take j os)) up ∙ told_step names 0 i ns os n o stands responds)

-- a table of at most 32 tasks, whose response times have room, is refused for its flaws alone
pub flaw_refused : (ns : List Numbers) (places : ℕ) (r : Refusal) (at y : ℕ) → length ns ≤ 32 → places ≡ 32
    → refuses r at ≡ checked (response_checks ns places) y
    → refuses r at ≡ first_refusal (table_flaw_checks row_flaws ns)
flaw_refused ns places r at y few room refused =
    let fits : length ns ≤ places = omega (arith, few, room) in
    let flaws = table_flaw_checks row_flaws ns in
    refuses_any flaws r at y
    (refused
    ∙ passes_on _ FullTable 0 _ (le-ltb 32 (length ns) few)
    ∙ passes_on _ ShortList 0 (checked flaws y) (le-ltb places (length ns) fits)) tt

-- where all response times of a table are put in front into a list, the text that tells those there is that of the
-- table
pub responses_text : (table : TaskTable) (ns : List Numbers) (old new : List (Option ℕ)) (n : ℕ) (text : List ℕ)
    → ns ≡ table_numbers table → n ≡ length ns → map plain (rows_of ns) ≡ ns
    → new ≡ written old 0 (responses_of (rows_of ns)) → TableResponds (rows_of ns)
    → TellsResponses table (take n new) text → IsResponsesText table text
responses_text table ns old new n text is count tasks filled says tells =
    let rows = rows_of ns in
    let even : length rows ≡ length ns = sym (length-map rows plain) ∙ ap length tasks in
    let upto : n ≡ 0 + length (responses_of rows) = omega (arith, count, even, length_responses_below [] rows) in
    let put = ap₂ take upto filled ∙ take_written old 0 (omega arith) (responses_of rows) in
    record {
      tasks = subst (λ xs. map plain (rows_of xs) ≡ xs) is tasks;
      tells = subst (λ os. TellsResponses table os text) (put ∙ ap (λ xs. responses_of (rows_of xs)) is) tells;
      says = subst (λ xs. TableResponds (rows_of xs)) is says;
    }
