-- Round steps, and how many of them fit a span.
use Rattle.std.proofs.Common.{◌≡◌, ℕ, suc, ◌+◌, ◌*◌, ◌/◌, ◌^◌, ◌<◌, ◌≤◌, sym, ◌∙◌, ap, arith}
use Rattle.std.proofs.Math.Nat.{mul-div-le, mul-le-mul_left, pow-suc}

-- more steps than q are as long as q + 1 of them
pub many_long : (span step q : ℕ) → q < span / step → step * (q + 1) ≤ span
many_long span step q many =
    let whole : step * (span / step) ≤ span = mul-div-le span step in
    let part : step * (q + 1) ≤ step * (span / step) = mul-le-mul_left step (omega (arith, many)) in
    omega (arith, whole, part)

-- ten times a power of ten is the next one
pub ten_more : (power n : ℕ) → power ≡ 10 ^ n → power * 10 ≡ 10 ^ (n + 1)
ten_more power n e = let next : n + 1 ≡ suc n = omega arith in
    ap (λ p. p * 10) e ∙ sym (ap (λ k. 10 ^ k) next ∙ pow-suc 10 n)
