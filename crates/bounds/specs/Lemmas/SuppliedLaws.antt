-- The laws of the supplied bounds as values.
use Rattle.std.specs.Prelude.{ℕ, ◌-◌, ◌≤◌}
use Rattle.std.proofs.Common.{arith}
use Rattle.bounds.specs.declared.linear.Line.{Line}
use Rattle.bounds.specs.declared.supplied.Supplied.{Supplied}
use Rattle.bounds.specs.declared.supplied.Supplied.TheVariants.{ExactSteps as exact, LinearTail as tail}
use Rattle.bounds.specs.declared.supplied.Supplied.TheVariants.{Staircase as stairs}
use Rattle.bounds.specs.Laws.{Laws}
use Rattle.bounds.specs.Meaning.{finest}
use Rattle.bounds.specs.Supplied.{line_shape, linear_tail}
use Rattle.bounds.specs.Tails.{LateLaws}
use Rattle.bounds.specs.Values.{accuracy_of_line, meaning_of}
use Rattle.bounds.specs.Lemmas.Asking.{asked_tells}
use Rattle.bounds.specs.Lemmas.ExactLaws.{exact_laws}
use Rattle.bounds.specs.Lemmas.Lines.{line_close, line_covers, line_straight}
use Rattle.bounds.specs.Lemmas.StairLaws.{stair_laws}
use Rattle.bounds.specs.Lemmas.TailLaws.{tail_laws}

-- the line owes nothing past k − 1 exact releases, k the accuracy
line_laws : (k : ℕ) → 1 ≤ k → k ≤ finest → LateLaws (line_shape k)
line_laws k low high =
    record {
      covers = λ h r t ask. line_covers h r t (asked_tells h r t ask).divides;
      close = λ h r t ask late. line_close h r t (asked_tells h r t ask).divides (k - 1) k late (omega arith);
      some_accuracy = low;
      most_accuracy = high;
      bends = λ h r t ask some near late. let straight = line_straight h r t some in omega arith;
    }

-- nor that of any value, since its accuracy is one
pub line_laws_of : (l : Line) → LateLaws (line_shape (accuracy_of_line l))
line_laws_of l = line_laws l.accuracy l.low l.high

-- the linear tail shows every law
pub linear_laws : (k : ℕ) → 1 ≤ k → k ≤ finest → Laws (linear_tail k)
linear_laws k low high = tail_laws (line_shape k) (line_laws k low high)

-- every supplied bound shows the laws
pub laws_of : (s : Supplied) → Laws (meaning_of s)
laws_of exact = exact_laws
laws_of (tail t) = tail_laws (line_shape (accuracy_of_line t.late)) (line_laws_of t.late)
laws_of (stairs s) = stair_laws s.accuracy s.low s.high
