-- The quotient rounded up: the least number of b's that cover a.
use Rattle.std.proofs.Common.{◌≡◌, ℕ, ◌+◌, ◌-◌, ◌*◌, ◌/◌, ◌%◌, ◌<◌, ◌≤◌, min, sym, ap, ◌∙◌, lt_of_mul-lt-mul_right}
use Rattle.std.proofs.Common.{arith}
use Rattle.std.proofs.lemmas.Nat.{div-mul-add, div-add-mod', mod_below}
use Rattle.std.proofs.lemmas.Grind.{div_ceil_times}
use Rattle.rows.specs.declared.tasks.Row.{Row}
use Rattle.rows.specs.Times.{ceiling}
use Rattle.rows.specs.Counting.{steps, CountsJobs}

-- q b's cover a, and one fewer do not
pub ceiling_is : (a b q : ℕ) → 0 < b → a ≤ q * b → q * b < a + b → ceiling a b ≡ q
ceiling_is a b q some covers tight =
    let left : (a + (b - 1)) - q * b < b = omega arith in
    let split : a + (b - 1) ≡ q * b + ((a + (b - 1)) - q * b) = omega arith in
    ap (λ n. n / b) split ∙ div-mul-add q b _ left

pub ceiling_covers : (a b : ℕ) → 0 < b → a ≤ ceiling a b * b
ceiling_covers a b some = omega (arith, div-add-mod' (a + (b - 1)) b, mod_below (a + (b - 1)) b some)

pub ceiling_tight : (a b : ℕ) → 0 < b → ceiling a b * b < a + b
ceiling_tight a b some = omega (arith, div-add-mod' (a + (b - 1)) b)

-- a quotient rounded up never falls
pub ceiling_grows : (a c b : ℕ) → 0 < b → a ≤ c → ceiling a b ≤ ceiling c b
ceiling_grows a c b some order =
    let more = lt_of_mul-lt-mul_right b {m = ceiling a b} {n = ceiling c b + 1}
    (omega (arith, ceiling_tight a b some, ceiling_covers c b some)) in
    omega arith

-- the quotient, and one more where something is left over
pub ceiling_by_quotient : (a b : ℕ) → 0 < b → a / b + min 1 (a % b) ≡ ceiling a b
ceiling_by_quotient a b some = let bounds = div_ceil_times a b some in
    sym (ceiling_is a b (a / b + min 1 (a % b)) some bounds.0 bounds.1)

-- the steps of a row are the work of as many jobs as it takes periods to cover the time
pub steps_jobs : (r : Row) (t s : ℕ) → s ≡ steps r t → CountsJobs r t s
steps_jobs r t s same = record {
  jobs = ceiling (t + r.jitter) r.period;
  work = same;
  cover = ceiling_covers (t + r.jitter) r.period (omega arith);
  tight = ceiling_tight (t + r.jitter) r.period (omega arith);
}
