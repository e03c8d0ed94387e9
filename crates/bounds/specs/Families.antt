-- What the supplied bounds are called.
use Rattle.std.specs.Prelude.{ℕ, Bool, true, false, not, List, [], ◌∷◌, ◌++◌, ◌==◌, Some, None, Option, codes, decimal}
use Rattle.std.specs.Prelude.{find, if◌then◌else◌}
use Rattle.rows.specs.declared.refusals.Refusal.TheVariants.{BadAccuracy, UnknownBound}
use Rattle.rows.specs.Answers.{Check, check}
use Rattle.bounds.specs.declared.families.Family.{Family}
use Rattle.bounds.specs.declared.families.Family.TheVariants.{ExactSteps as exact_kind, LinearTail as tail_kind}
use Rattle.bounds.specs.declared.families.Family.TheVariants.{Staircase as stair_kind}
use Rattle.bounds.specs.declared.families.TheConstants.Family.{ALL}
use Rattle.bounds.specs.declared.supplied.Supplied.{Supplied}
use Rattle.bounds.specs.declared.supplied.Supplied.TheVariants.{ExactSteps as exact, LinearTail as tail}
use Rattle.bounds.specs.declared.supplied.Supplied.TheVariants.{Staircase as stairs}
use Rattle.bounds.specs.Meaning.{Meaning, is_accuracy}
use Rattle.bounds.specs.Supplied.{exact_steps, linear_tail, staircase}
use Rattle.bounds.specs.Values.{accuracy_of, accuracy_of_stairs}

-- the number by which a heading names bounds of a kind
abbrev pub family_number : Family → ℕ
family_number exact_kind = 0
family_number tail_kind = 1
family_number stair_kind = 2

-- the word by which a script and a command line name them
abbrev pub family_word : Family → List ℕ
family_word exact_kind = codes "exact"
family_word tail_kind = codes "linear"
family_word stair_kind = codes "staircase"

-- what they are called for people
abbrev pub family_name : Family → List ℕ
family_name exact_kind = codes "exact steps"
family_name tail_kind = codes "linear tail"
family_name stair_kind = codes "staircase"

-- there is one for each accuracy; of the other kinds there is but one
abbrev pub has_accuracies : Family → Bool
has_accuracies exact_kind = false
has_accuracies tail_kind = true
has_accuracies stair_kind = true

-- the kind that a number names
abbrev pub family_of_number : ℕ → Option Family
family_of_number n = find (λ f. family_number f == n) ALL

-- the kind of a bound, and the accuracy that is told with it: 0 where there is but one of the kind
abbrev pub supplied_plain : Supplied → Family × ℕ
supplied_plain exact = (exact_kind, 0)
supplied_plain (tail t) = (tail_kind, accuracy_of t)
supplied_plain (stairs s) = (stair_kind, accuracy_of_stairs s)

-- what a bound means that is told so, by its kind and the accuracy
abbrev pub family_meaning : Family → ℕ → Meaning
family_meaning exact_kind k = exact_steps
family_meaning tail_kind k = linear_tail k
family_meaning stair_kind k = staircase k

-- an accuracy can be told with a kind: one of its accuracies, or 0 where it has none
abbrev pub can_have : Family → ℕ → Bool
can_have f k = if has_accuracies f then is_accuracy k else k == 0

-- what is checked of it: bad accuracy
abbrev pub family_accuracy_checks : Family → ℕ → List Check
family_accuracy_checks f k = check (not (can_have f k)) BadAccuracy 0 ∷ []

-- a bound as a heading tells it: the number of its kind, and the accuracy
abbrev pub bound_numbers : Supplied → ℕ × ℕ
bound_numbers b = (family_number (supplied_plain b).0, (supplied_plain b).1)

-- what is checked of a bound that a number and an accuracy name, in order: unknown bound; bad accuracy
abbrev pub named_checks : ℕ → ℕ → List Check
named_checks n k = checks (family_of_number n)
  where
    checks : Option Family → List Check
    checks None = check true UnknownBound 0 ∷ []
    checks (Some f) = family_accuracy_checks f k

-- a bound as a person reads it, by its kind and the accuracy: exact steps, or linear tail of accuracy 3
abbrev pub family_shown : Family → ℕ → List ℕ
family_shown f k =
    if has_accuracies f then family_name f ++ (codes " of accuracy " ++ decimal k)
    else family_name f

-- the same of a bound
abbrev pub shown_bound : Supplied → List ℕ
shown_bound b = family_shown (supplied_plain b).0 (supplied_plain b).1

-- and as a file is named for it: exact, or linear-3
abbrev pub shown_short : Supplied → List ℕ
shown_short b =
    if has_accuracies (supplied_plain b).0
    then family_word (supplied_plain b).0 ++ (codes "-" ++ decimal (supplied_plain b).1)
    else family_word (supplied_plain b).0
