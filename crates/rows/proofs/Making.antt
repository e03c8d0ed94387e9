-- Numbers that come through the checks of a table are rows.
use Rattle.std.proofs.Common.{◌≡◌, ℕ, ◌<◌, List, [], ◌∷◌, map, length, get_or, Ok, Err, Result, sym, refl, ap, ◌∙◌}
use Rattle.std.specs.Result.{IsOk}
use Rattle.rows.specs.declared.judging.Flaw.{Flaw}
use Rattle.rows.specs.declared.refusals.Fault.{Fault}
use Rattle.rows.specs.declared.tasks.Numbers.{Numbers}
use Rattle.rows.specs.declared.tasks.Row.{Row}
use Rattle.rows.specs.Answers.{answer, checked, Passes}
use Rattle.rows.specs.Judging.{flaw_checks, has_flaw, plain, refusal_for, rows_of, table_flaw_checks}
use Rattle.rows.proofs.Checks.{answered_once, each_passes, passes_on}
use Rattle.rows.proofs.SameRow.{rows_of_plain}

-- where the checks of a table find no flaw, those of any place of it find none
pub passes_at : (flaws : List Flaw) (table : List Numbers) (k at : ℕ) (d : Numbers) → k < length table
    → Passes (table_flaw_checks flaws table) → Passes (flaw_checks flaws (get_or table k d) at)
passes_at [] table k at d within passes = refl
passes_at (f ∷ flaws) table k at d within passes =
    let first = each_passes (has_flaw f) table (refusal_for f) tt (checked (table_flaw_checks flaws table) tt) passes in
    passes_at flaws table k at d within first.1
    ∙ sym (passes_on (has_flaw f (get_or table k d)) (refusal_for f) at _ (first.0 k d within))

-- so the numbers of a place are not refused
pub not_refused : (flaws : List Flaw) (table : List Numbers) (k at : ℕ) (d : Numbers) (r : Result Row Fault)
    → answer plain r ≡ checked (flaw_checks flaws (get_or table k d) at) (get_or table k d) → k < length table
    → Passes (table_flaw_checks flaws table) → IsOk r
not_refused flaws table k at d (Ok row) judged within passes = refl
not_refused flaws table k at d (Err fault) judged within passes =
    absurd (answered_once (flaw_checks flaws (get_or table k d) at) tt tt _ _ (get_or table k d)
    (passes_at flaws table k at d within passes) judged)

-- rows that have the numbers of a table are the rows of its numbers
pub all_made : (rows : List Row) (table : List Numbers) → map plain rows ≡ table
    → (rows ≡ rows_of table) × (map plain (rows_of table) ≡ table)
all_made rows table are = let same = sym (rows_of_plain rows) ∙ ap rows_of are in
    (same, ap (map plain) (sym same) ∙ are)
