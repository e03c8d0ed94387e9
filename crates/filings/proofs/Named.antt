-- Bounds that are named, checked one after the other.
use Rattle.std.proofs.Common.{◌≡◌, ℕ, zero, suc, ◌+◌, ◌<◌, List, [], ◌∷◌, map, length, get_or, take, sym, ap, ◌∙◌}
use Rattle.std.proofs.Common.{arith}
use Rattle.std.proofs.lemmas.List.{map_push, take_more}
use Rattle.rows.specs.declared.refusals.Refusal.{Refusal}
use Rattle.rows.specs.Answers.{checked, gives, Passes, refuses, refuses_at}
use Rattle.rows.proofs.Checks.{nothing_told, passed_first, refused_first}
use Rattle.bounds.specs.declared.families.Family.{Family}
use Rattle.filings.specs.Checks.{bound_check, bound_checks}

-- what the check of one bound refuses is refused by those of all, where those before it pass
pub refused_bound : (bounds : List (Family × ℕ)) (i : ℕ) (d : Family × ℕ) → i < length bounds
    → Passes (bound_checks (take i bounds))
    → (n : Refusal) (at : ℕ) → refuses n at ≡ checked {A = Unit {0}} (bound_check (get_or bounds i d) ∷ []) tt
    → refuses n at ≡ checked {A = Unit {0}} (bound_checks bounds) tt
refused_bound [] i d within passes n at refused = absurd (omega (arith, within))
refused_bound (b ∷ bounds) zero d within passes n at refused =
    refused_first (bound_check b ∷ []) (bound_checks bounds) n at tt refused tt
refused_bound (b ∷ bounds) (suc i) d within passes n at refused =
    let first = nothing_told (bound_check b).refusal (bound_check b).at tt
    (checked (bound_checks (take i bounds)) tt) passes in
    rw first.0 (refused_bound bounds i d (omega arith) first.1 n at refused)

-- and one bound more passes
pub bound_more : (bounds : List (Family × ℕ)) (i : ℕ) (d : Family × ℕ) → i < length bounds
    → Passes (bound_checks (take i bounds)) → Passes (bound_check (get_or bounds i d) ∷ [])
    → Passes (bound_checks (take (i + 1) bounds))
bound_more bounds i d within passes here =
    here ∙ passed_first (bound_checks (take i bounds)) (bound_check (get_or bounds i d) ∷ []) tt tt passes tt
    ∙ ap (λ cs. checked cs tt)
    (sym (ap (map bound_check) (take_more bounds i d within)
    ∙ map_push bound_check (take i bounds) (get_or bounds i d)))

-- where all pass, each does
pub bound_passes : (bounds : List (Family × ℕ)) (i : ℕ) (d : Family × ℕ) → i < length bounds
    → Passes (bound_checks bounds) → Passes (bound_check (get_or bounds i d) ∷ [])
bound_passes [] i d within passes = absurd (omega (arith, within))
bound_passes (b ∷ bounds) zero d within passes =
    let first = nothing_told (bound_check b).refusal (bound_check b).at tt (checked (bound_checks bounds) tt) passes in
    sym (ap (λ o. refuses_at (bound_check b).refusal o (gives tt)) first.0)
bound_passes (b ∷ bounds) (suc i) d within passes =
    let first = nothing_told (bound_check b).refusal (bound_check b).at tt (checked (bound_checks bounds) tt) passes in
    bound_passes bounds i d (omega arith) first.1
