-- Findings are known by what they tell.
use Rattle.std.proofs.Common.{◌≡◌, List, [], ◌∷◌, map, drop, get_or, refl, ap, ap₂}
use Rattle.rows.specs.declared.verdicts.Finding.{Finding}
use Rattle.rows.specs.declared.verdicts.Verdict.{Verdict}
use Rattle.rows.specs.declared.verdicts.Verdict.TheVariants.{Meets, Misses}
use Rattle.rows.specs.Found.{tells, verdict_rest}

-- a verdict is known by the first rest that it carries
same_verdict : (v w : Verdict) → verdict_rest v ≡ verdict_rest w → v ≡ w
same_verdict Misses Misses same = refl
same_verdict Misses (Meets t) same = cc
same_verdict (Meets t) Misses same = cc
same_verdict (Meets t) (Meets u) same = let rest : t ≡ u = cc in ap Meets rest

-- a finding is known by what it tells
pub same_finding : (f g : Finding) → tells f ≡ tells g → f ≡ g
same_finding f g same =
    let verdict = same_verdict f.verdict g.verdict (ap (λ x. x.rest) same) in
    λ i. record { verdict = verdict i; points = (same i).points }

-- findings are known by what they tell
pub same_findings : (fs gs : List Finding) → map tells fs ≡ map tells gs → fs ≡ gs
same_findings [] [] same = refl
same_findings [] (g ∷ gs) same = cc
same_findings (f ∷ fs) [] same = cc
same_findings (f ∷ fs) (g ∷ gs) same =
    ap₂ ◌∷◌ (same_finding f g (ap (λ xs. get_or xs 0 (tells f)) same)) (same_findings fs gs (ap (drop 1) same))
