-- Accuracies tried in turn, from 1 on.
use Rattle.std.proofs.Common.{◌≡◌, ℕ, ◌+◌, ◌<◌, ◌≤◌, false, is_some, Some, None, sym, ap, ◌∙◌, ⊎_elim, arith}
use Rattle.std.proofs.lemmas.Bool.{cases_lt, le-leb, lt-leb}
use Rattle.rows.specs.declared.tasks.Row.{Row}
use Rattle.rows.specs.Answers.{gives, checked}
use Rattle.rows.specs.Books.{Book}
use Rattle.rows.proofs.Checks.{given_is, gives_any}
use Rattle.bounds.specs.Instants.{least, IsFirst}
use Rattle.bounds.specs.Meaning.{accuracy_checks, finest}
use Rattle.bounds.specs.Supplied.{linear_tail}
use Rattle.bounds.specs.Lemmas.Instants.{least_some, least_none}
use Rattle.rows.specs.declared.verdicts.Finding.{Finding}
use Rattle.rows.specs.declared.verdicts.Verdict.{Verdict}
use Rattle.findings.specs.Asking.{question_checks}
use Rattle.rows.specs.Found.{verdict_rest, tells}
use Rattle.findings.specs.Findings.{row_finding}
use Rattle.findings.specs.Countable.{StandOn}
use Rattle.brackets.specs.Counting.{has_rest_by, MeetsFrom}
use Rattle.brackets.proofs.Earlier.{some_earlier}
use Rattle.brackets.proofs.Tails.{finer_tails}

module _ (r : Row) (above : Book) where
  -- each accuracy below n was tried: the question was answered, and the row misses by it
  abbrev pub Tried : ℕ → Type 0
  Tried n = (k : ℕ) → 1 ≤ k → k < n
      → (gives (tt {0}) ≡ checked (question_checks r above) tt) × (has_rest_by above.frame r above.rows k ≡ false)

  -- a finding by the tail made with an accuracy tells whether the row meets by it
  pub tail_meets : (k a : ℕ) (f : Finding) (v : Verdict) → gives k ≡ checked (accuracy_checks a) a
      → gives (tells f) ≡ checked (question_checks r above) (row_finding (linear_tail k) above.frame r above.rows)
      → f.verdict ≡ v → has_rest_by above.frame r above.rows a ≡ is_some (verdict_rest v)
  tail_meets k a f v given answered is =
      ap (has_rest_by above.frame r above.rows) (sym (given_is (accuracy_checks a) k a given))
      ∙ ap (λ x. is_some x.rest) (sym (given_is (question_checks r above) _ _ answered))
      ∙ ap (λ u. is_some (verdict_rest u)) is

  -- from the first accuracy by which the row meets, it meets by all
  pub meets_from : (a : ℕ) → StandOn above.frame.ticks above.rows
      → IsFirst (has_rest_by above.frame r above.rows) 0 finest a → MeetsFrom above.frame r above.rows (Some a)
  meets_from a stands first k low high =
      ⊎_elim (λ (under : k < a). first.none k low under ∙ sym (lt-leb a k under))
      (λ (over : a ≤ k). some_earlier _ _ (finer_tails a k above.frame r above.rows first.after over stands) first.holds
      ∙ sym (le-leb a k over))
      (cases_lt k a)

  -- that accuracy is the answer
  pub least_met : {A : Type 0} (x y : A) (a : ℕ) → gives x ≡ checked (question_checks r above) y
      → IsFirst (has_rest_by above.frame r above.rows) 0 finest a
      → gives (Some a) ≡ checked (question_checks r above) (least (has_rest_by above.frame r above.rows) finest 1)
  least_met x y a answered first =
      gives_any (question_checks r above) x y answered (Some a)
      ∙ ap (checked (question_checks r above))
      (sym (least_some (has_rest_by above.frame r above.rows) finest 0 finest a first first.within))

  -- where all were tried there is none
  pub none_met : Tried (finest + 1)
      → gives None ≡ checked (question_checks r above) (least (has_rest_by above.frame r above.rows) finest 1)
  none_met tried =
      let none = least_none (has_rest_by above.frame r above.rows) finest 0
      (λ k low high. (tried k low (omega arith)).1) in
      gives_any (question_checks r above) tt tt (tried 1 (omega arith) (omega arith)).0 None
      ∙ ap (checked (question_checks r above)) (sym none)
