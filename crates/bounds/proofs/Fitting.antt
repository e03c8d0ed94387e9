-- How large the amounts of a lawful bound can be.
use Rattle.std.proofs.Common.{◌≡◌, ℕ, ◌+◌, ◌*◌, ◌^◌, ◌<◌, ◌≤◌, true, ⊎_elim, arith}
use Rattle.std.proofs.lemmas.Nat.{mul-le}
use Rattle.std.proofs.lemmas.Bool.{cases_lt}
use Rattle.rows.specs.declared.tasks.Row.{Row}
use Rattle.rows.specs.Counting.{steps}
use Rattle.bounds.specs.Laws.{Laws}
use Rattle.bounds.specs.declared.questions.Asked.{Asked}
use Rattle.bounds.specs.Meaning.{Meaning, is_asked}
use Rattle.bounds.specs.Questions.{IsQuestion, amount_asked, asked_at, asked_frame, asked_row}
use Rattle.bounds.specs.Lemmas.Asking.{most_parts, asked_tells, steps_fit}

-- the largest amount that any bound can have: twice what the exact steps can have
abbrev pub largest : ℕ
largest = 2 * most_parts

-- (k + 1) / k times as much is at most twice as much
at_most_twice : (k f x : ℕ) → 1 ≤ k → k * f ≤ (k + 1) * x → x ≤ most_parts → f ≤ largest
at_most_twice k f x some close small =
    ⊎_elim (λ (over : 2 * x < f).
    absurd (let z : ⊥ =
    omega (arith, mul-le k (2 * x + 1) k f (omega arith) (omega arith), mul-le 1 x k x some (omega arith)) in z))
    (λ (under : f ≤ 2 * x). omega arith)
    (cases_lt (2 * x) f)

-- no amount that is asked for is larger
pub amount_small : {m : Meaning} → Laws m → (h : ℕ) (r : Row) (t : ℕ) → is_asked h r t ≡ true → m.amount h r t ≤ largest
amount_small {m} laws h r t ask =
    let known = asked_tells h r t ask in
    at_most_twice m.accuracy (m.amount h r t) (h * steps r t) laws.some_accuracy (laws.close h r t ask)
    (steps_fit h r t known.frame known.near)

-- every amount that is asked for fits 64 bits
pub amount_fits : {m : Meaning} → Laws m → (h : ℕ) (r : Row) (t : ℕ) → is_asked h r t ≡ true → m.amount h r t < 2 ^ 64
amount_fits laws h r t ask = omega (arith, amount_small laws h r t ask)

-- so does the amount of every question
pub asked_fits : {m : Meaning} → Laws m → (q : Asked) → IsQuestion q → amount_asked m q < 2 ^ 64
asked_fits laws q ask = amount_fits laws (asked_frame q) (asked_row q) (asked_at q) ask
