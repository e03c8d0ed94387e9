-- What is drawn by bounds.
use Rattle.std.proofs.Common.{◌≡◌, List, [], ◌∷◌, map, refl, ap, ap₂}
use Rattle.bounds.specs.declared.supplied.Supplied.{Supplied}
use Rattle.bounds.specs.Families.{family_meaning, supplied_plain}
use Rattle.bounds.specs.Meaning.{Meaning}
use Rattle.bounds.specs.Values.{meaning_of}
use Rattle.bounds.proofs.Numbered.{means_plain}
use Rattle.findings.specs.Demand.{Load}
use Rattle.plots.specs.declared.questions.Named.{Named}

-- the loads by bounds are those by their kinds and accuracies
pub loads_plain : (by : Meaning → Load) (bounds : List (Named Supplied)) → map (λ n. by (meaning_of n.bound.now)) bounds
    ≡ map (λ b. by (family_meaning b.0 b.1)) (map (λ n. supplied_plain n.bound.now) bounds)
loads_plain by [] = refl
loads_plain by (n ∷ ns) = ap₂ (λ x xs. x ∷ xs) (ap by (means_plain n.bound.now)) (loads_plain by ns)
