use Rattle.std.proofs.Common.{◌≡◌, ℕ, ◌*◌, ◌%◌}
use Rattle.std.specs.Int.{IsGcd}
use Rattle.filings.proofs.frames.common_divisor.Given as goal

-- a common divisor of what is left is one of both numbers, and what divides multiples of both divides those of what is
-- left
abbrev pub invariant-loop-rest : goal.invariant-loop-rest
invariant-loop-rest l = record {
  greatest : (g : ℕ) → IsGcd l.divisor l.rest g → IsGcd l.fn.first l.fn.second g;
  multiplied : (p k : ℕ) → l.fn.first * k % p ≡ 0 → l.fn.second * k % p ≡ 0
      → (l.divisor * k % p ≡ 0) × (l.rest * k % p ≡ 0);
}

abbrev pub decreases-loop-rest : goal.decreases-loop-rest
decreases-loop-rest l = l.rest
