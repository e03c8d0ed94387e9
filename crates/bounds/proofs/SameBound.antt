-- A supplied bound is known by the numbers that tell it, and these pass their checks.
use Rattle.std.proofs.Common.{◌≡◌, ℕ, ◌≤◌, not, refl, ap, arith}
use mathlib.Core.HLevel.{is_prop→PathP}
use Rattle.std.proofs.Math.Bridge.{le_prop}
use Rattle.std.proofs.lemmas.Bool.{and_from, le-leb, not_from_true}
use Rattle.rows.specs.declared.refusals.Refusal.TheVariants.{BadAccuracy}
use Rattle.rows.specs.Answers.{first_refusal, gives}
use Rattle.rows.proofs.Checks.{passes_on}
use Rattle.bounds.specs.declared.linear.Line.{Line}
use Rattle.bounds.specs.declared.stairs.Staircase.{Staircase}
use Rattle.bounds.specs.declared.tails.Tail.{Tail}
use Rattle.bounds.specs.Meaning.{accuracy_checks, finest, is_accuracy}
use Rattle.bounds.specs.declared.supplied.Supplied.{Supplied}
use Rattle.bounds.specs.declared.supplied.Supplied.TheVariants.{ExactSteps as exact, LinearTail as tail}
use Rattle.bounds.specs.declared.supplied.Supplied.TheVariants.{Staircase as stairs}
use Rattle.bounds.specs.Families.{bound_numbers, named_checks}
use Rattle.bounds.specs.Values.{accuracy_of, accuracy_of_stairs}

-- tails of the same accuracy are the same tail
same_tail : (s t : Tail Line) → accuracy_of s ≡ accuracy_of t → s ≡ t
same_tail s t same =
    λ i. record {
      late = record {
        accuracy = same i;
        low = is_prop→PathP (λ j. 1 ≤ same j) (λ j. le_prop) s.late.low t.late.low i;
        high = is_prop→PathP (λ j. same j ≤ finest) (λ j. le_prop) s.late.high t.late.high i;
      };
    }

-- staircases of the same accuracy are the same staircase
same_stairs : (s t : Staircase) → accuracy_of_stairs s ≡ accuracy_of_stairs t → s ≡ t
same_stairs s t same =
    λ i. record {
      accuracy = same i;
      low = is_prop→PathP (λ j. 1 ≤ same j) (λ j. le_prop) s.low t.low i;
      high = is_prop→PathP (λ j. same j ≤ finest) (λ j. le_prop) s.high t.high i;
    }

-- a bound is known by its number and its accuracy
pub same_bound : (a b : Supplied) → (bound_numbers a).0 ≡ (bound_numbers b).0
    → (bound_numbers a).1 ≡ (bound_numbers b).1 → a ≡ b
same_bound exact exact number accuracy = refl
same_bound exact (tail t) number accuracy = absurd (omega arith)
same_bound exact (stairs t) number accuracy = absurd (omega arith)
same_bound (tail s) exact number accuracy = absurd (omega arith)
same_bound (tail s) (tail t) number accuracy = ap tail (same_tail s t accuracy)
same_bound (tail s) (stairs t) number accuracy = absurd (omega arith)
same_bound (stairs s) exact number accuracy = absurd (omega arith)
same_bound (stairs s) (tail t) number accuracy = absurd (omega arith)
same_bound (stairs s) (stairs t) number accuracy = ap stairs (same_stairs s t accuracy)

-- an accuracy from 1 to the greatest passes its check
accuracy_passes : (k : ℕ) → 1 ≤ k → k ≤ finest → first_refusal (accuracy_checks k) ≡ gives tt
accuracy_passes k low high =
    passes_on (not (is_accuracy k)) BadAccuracy 0 _
    (not_from_true _ (and_from _ _ (le-leb 1 k low) (le-leb k finest high)))

-- the number and the accuracy of every bound pass their checks
pub named_passes : (b : Supplied) → first_refusal (named_checks (bound_numbers b).0 (bound_numbers b).1) ≡ gives tt
named_passes exact = refl
named_passes (tail t) = accuracy_passes t.late.accuracy t.late.low t.late.high
named_passes (stairs s) = accuracy_passes s.accuracy s.low s.high
