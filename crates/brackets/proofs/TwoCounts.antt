-- What two answered questions about a row tell together.
use Rattle.std.proofs.Common.{◌≡◌, sym, ap, ◌∙◌, subst, ap₂}
use Rattle.rows.specs.declared.tasks.Row.{Row}
use Rattle.rows.specs.Answers.{gives, checked}
use Rattle.rows.specs.Books.{Book, IsJudged}
use Rattle.rows.proofs.Checks.{given_is, gives_any}
use Rattle.bounds.specs.Laws.{Laws}
use Rattle.bounds.specs.Meaning.{Meaning}
use Rattle.bounds.specs.Supplied.{exact_steps}
use Rattle.rows.specs.declared.verdicts.Finding.{Finding}
use Rattle.findings.specs.Asking.{question_checks}
use Rattle.findings.specs.Exact.{exact_rest}
use Rattle.rows.specs.Found.{Found, verdict_rest, tells}
use Rattle.findings.specs.Findings.{row_finding}
use Rattle.findings.proofs.OnFrame.{judged_stand}
use Rattle.findings.proofs.FixedPoint.{exact_rest_is}
use Rattle.brackets.specs.declared.counting.Counts.{Counts}
use Rattle.brackets.specs.Bracketing.{LiesBetween}
use Rattle.brackets.specs.Counting.{both_found, row_counts}
use Rattle.brackets.proofs.Bracket.{brackets, fewer_above}
use Rattle.brackets.proofs.Rearranged.{any_order}

module _ (r : Row) (above : Book) where
  -- two findings that are answered are the two of the row
  pub both_are : (m : Meaning) (c : Counts)
      → gives (tells c.exact) ≡ checked (question_checks r above) (row_finding exact_steps above.frame r above.rows)
      → gives (tells c.bounded) ≡ checked (question_checks r above) (row_finding m above.frame r above.rows)
      → gives (both_found c) ≡ checked (question_checks r above) (row_counts m above.frame r above.rows)
  both_are m c exact bounded =
      let pair : Found → Found → Found × Found = λ e b. (e, b) in
      ap gives (ap₂ pair (given_is (question_checks r above) _ _ exact)
      (given_is (question_checks r above) _ _ bounded))
      ∙ gives_any (question_checks r above) _ _ exact (row_counts m above.frame r above.rows)

  -- the finding in exact steps tells the first rest with no frame
  pub exact_is : (f : Finding)
      → gives (tells f) ≡ checked (question_checks r above) (row_finding exact_steps above.frame r above.rows)
      → IsJudged above → verdict_rest f.verdict ≡ exact_rest r above.rows
  exact_is f answered judged =
      ap (λ x. x.rest) (given_is (question_checks r above) _ _ answered)
      ∙ exact_rest_is above.frame r above.rows judged.frame.ticks

  -- the first rest by a lawful bound lies between the exact one and the one at the lower speed
  pub between : {m : Meaning} → Laws m → (f : Finding)
      → gives (tells f) ≡ checked (question_checks r above) (row_finding m above.frame r above.rows) → IsJudged above
      → LiesBetween m.accuracy r above.rows (verdict_rest f.verdict)
  between {m} laws f answered judged =
      let is = ap (λ x. x.rest) (given_is (question_checks r above) _ _ answered) in
      subst (LiesBetween m.accuracy r above.rows) (sym is)
      (brackets laws above.frame r above.rows (judged_stand above judged))

-- what a count in two ways answers by
pub ruleset both_told = (both_are, exact_is, fewer_above, any_order)
