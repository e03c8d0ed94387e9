-- The order of the rows above does not matter.
use Rattle.std.proofs.Common.{◌≡◌, ℕ, ◌+◌, ◌*◌, Bool, ◌&&◌, ◌||◌, eqb, ltb, leb, unwrap_or, sym, ap, ap₂}
use Rattle.std.proofs.Math.Path.{fun_ext}
use Rattle.std.proofs.lemmas.List.Sorted.{sum_by-IsPermutation, list_any-IsPermutation}
use Rattle.rows.specs.Counting.{window}
use Rattle.bounds.specs.Instants.{least, count}
use Rattle.bounds.specs.Meaning.{Meaning}
use Rattle.findings.specs.Demand.{load, is_rest}
use Rattle.rows.specs.Found.{Found}
use Rattle.findings.specs.Findings.{first_rest, stop, points, is_tested}
use Rattle.brackets.specs.Bracketing.{OrderIsFree}

-- a finding is made of the instants at which the row rests and of those at which it is tested
abbrev found_by : ℕ → (ℕ → Bool) → (ℕ → Bool) → Found
found_by last rest point =
    record { rest = least rest last 1; points = count point (unwrap_or (least (λ t. point t && rest t) last 1) last) }

-- both are the same in any order of the rows above
pub any_order : (m : Meaning) → OrderIsFree m
unfolding first_rest stop points
any_order m h r xs ys same =
    let rest : (t : ℕ)
    → is_rest (load m h.ticks r.work xs) t ≡ is_rest (load m h.ticks r.work ys) t =
    λ t. ap (λ n. leb (h.ticks * r.work + n) (h.ticks * t))
    (sym (sum_by-IsPermutation (λ s. m.amount h.ticks s t) xs ys same)) in
    let point : (t : ℕ)
    → is_tested (load m h.ticks r.work xs) (window r) t ≡ is_tested (load m h.ticks r.work ys) (window r) t =
    λ t. ap (λ b. eqb t (window r) || (ltb t (window r) && b))
    (list_any-IsPermutation (λ s. m.is_corner s t) xs ys same) in
    ap₂ (found_by (window r)) (fun_ext rest) (fun_ext point)
