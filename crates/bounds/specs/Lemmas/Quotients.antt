-- A number between two neighbouring multiples.
use Rattle.std.specs.Prelude.{◌≡◌, ℕ, ◌+◌, ◌-◌, ◌*◌, ◌/◌, ◌<◌, ◌≤◌}
use Rattle.std.proofs.Common.{ap, ◌∙◌, sym, arith}
use Rattle.std.proofs.lemmas.Nat.{div-mul-add}

-- q is the quotient of x by p where x lies from q × p on, and before (q + 1) × p
pub quotient_is : (x p q : ℕ) → q * p ≤ x → x < (q + 1) * p → q ≡ x / p
quotient_is x p q low high =
    let split : q * p + (x - q * p) ≡ x = omega arith in
    sym (ap (λ n. n / p) (sym split) ∙ div-mul-add q p (x - q * p) (omega arith))
