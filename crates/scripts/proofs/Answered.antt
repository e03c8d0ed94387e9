-- A script that names a bound and makes calls has the book's answers written.
use Rattle.std.proofs.Common.{◌≡◌, ℕ, ◌==◌, Bool, true, false, not, cond, List, [], ◌∷◌, ◌++◌, map, refl, sym, ap, ◌∙◌}
use Rattle.std.proofs.Common.{arith}
use Rattle.std.specs.List.{AllByRecursion}
use Rattle.std.proofs.lemmas.Bool.{eqb-true, true≢false}
use Rattle.std.proofs.lemmas.Bool.Decides.{nat_tests}
use Rattle.rows.specs.declared.refusals.Refusal.TheVariants.{BadAccuracy}
use Rattle.rows.specs.Answers.{Answer, Passes, check, checked}
use Rattle.rows.specs.Books.{Book}
use Rattle.bounds.specs.Meaning.{Meaning, is_accuracy}
use Rattle.bounds.specs.declared.families.Family.{Family}
use Rattle.bounds.specs.Families.{can_have, family_meaning, has_accuracies}
use Rattle.admission.specs.declared.calls.Call.{Call}
use Rattle.admission.specs.Books.{first_book, step}
use Rattle.admission.specs.Runs.{answers_from}
use Rattle.scripts.specs.declared.lines.ScriptLine.{ScriptLine}
use Rattle.scripts.specs.Runs.{as_lines, script_output, CallsAreAnswered}
use Rattle.scripts.specs.Scripts.{line_feed}
use Rattle.scripts.specs.Sessions.{State, named, unnamed, begins_by, first_stage, output_from, heard}
use Rattle.scripts.specs.Sessions.{reaction_text, next_number}
use Rattle.scripts.specs.Texts.{answer_text, bound_text, call_text, FitsBound, FitsLine}
use Rattle.scripts.proofs.Plain.{Plain, Plain-bound, Plain-call, script_lines-plain}
use Rattle.scripts.proofs.Printed.{bound_reads, call_reads}

plain_calls : (calls : List Call) → AllByRecursion FitsLine calls → AllByRecursion Plain (map call_text calls)
plain_calls [] fits = tt
plain_calls (call ∷ calls) fits = (Plain-call call fits.0, plain_calls calls fits.1)

-- the output for lines of which the first is read as a line
first_read : (s : State) (n : ℕ) (lines : List (List ℕ)) → ScriptLine → List ℕ
first_read s n lines l =
    reaction_text n (heard s l).1 ++ output_from (record { number = n; state = (heard s l).0 }) lines

-- calls are answered one after the other
calls_answered : (m : Meaning) (calls : List Call) → AllByRecursion FitsLine calls → (n : ℕ) (b : Book)
    → output_from (record { number = n; state = named m b }) (map call_text calls)
    ≡ as_lines (map answer_text (answers_from m b calls))
unfolding first_read
calls_answered m [] fits n b = refl
calls_answered m (call ∷ calls) fits n b =
    ap (first_read (named m b) (next_number n) (map call_text calls)) (call_reads call fits.0)
    ∙ ap (λ t. (answer_text (step m b call).1 ++ line_feed ∷ []) ++ t)
    (calls_answered m calls fits.1 (next_number n) (step m b call).0)

-- the lines of such a script, and what is written for them
output_of : (naming : List ℕ) (calls : List Call) → Plain naming → AllByRecursion FitsLine calls
    → script_output (as_lines (naming ∷ map call_text calls)) ≡ output_from first_stage (naming ∷ map call_text calls)
unfolding script_output
output_of naming calls plain fits =
    ap (output_from first_stage) (script_lines-plain (naming ∷ map call_text calls) (plain, plain_calls calls fits))

-- an accuracy that can be told with a kind of bound stands in a line
fits_bound : (f : Family) (k : ℕ) → can_have f k ≡ true → FitsBound f k
fits_bound f k fine = by_case (has_accuracies f) refl fine
  where
    by_case : (v : Bool) → has_accuracies f ≡ v → cond v (is_accuracy k) (k == 0) ≡ true → FitsBound f k
    by_case true told is = record {
      small = grind (arith, nat_tests);
      told = λ none. absurd (true≢false (sym told ∙ none));
    }
    by_case false told is =
        let none : k ≡ 0 = eqb-true k 0 is in
        record { small = omega (arith, none); told = λ _. none }

-- it can be told where its check passes
passed : (v : Bool) → Passes (check (not v) BadAccuracy 0 ∷ []) → v ≡ true
passed true passes = refl
passed false passes = cc

-- the output for lines behind one that names a bound
begun_by : List (List ℕ) → Answer Meaning → List ℕ
begun_by lines a = reaction_text 1 (begins_by a).1 ++ output_from (record { number = 1; state = (begins_by a).0 }) lines

pub calls_are_answered : CallsAreAnswered
unfolding first_read begun_by
calls_are_answered f k passes calls fits =
    let fine : can_have f k ≡ true = passed (can_have f k) passes in
    let told : FitsBound f k = fits_bound f k fine in
    let lines = map call_text calls in
    output_of (bound_text f k) calls (Plain-bound f k told) fits
    ∙ ap (first_read unnamed 1 lines) (bound_reads f k told)
    ∙ ap (λ v. begun_by lines (checked (check (not v) BadAccuracy 0 ∷ []) (family_meaning f k))) fine
    ∙ calls_answered (family_meaning f k) calls fits 1 first_book
