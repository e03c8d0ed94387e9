-- What is drawn at the instants of a window, none of which is past the horizon.
use Rattle.std.proofs.Common.{◌≡◌, ℕ, suc, ◌<◌, ◌≤◌, List, [], ◌∷◌, length, map, get_or, if◌then◌else◌, Some, None}
use Rattle.std.proofs.Common.{unwrap_or, refl, ap, ap₂, arith}
use Rattle.std.specs.BTreeSet.{BTreeSet}
use Rattle.std.proofs.lemmas.Bool.{le-leb}
use Rattle.std.proofs.lemmas.Cmp.{nat_cmp_total}
use Rattle.std.proofs.lemmas.Map.Views.{All-set_contains}
use Rattle.rows.specs.Times.{horizon}
use Rattle.findings.specs.Demand.{Load, demand}
use Rattle.findings.specs.Findings.{is_tested}
use Rattle.plots.specs.Pictures.{point_at, point_told}
use Rattle.plots.specs.Thinning.{DrawsWithin}

-- two functions that agree at each element of a list make the same of it
map_alike : {X Y : Type 0} (f g : X → Y) (xs : List X)
    → ((k : ℕ) (d : X) → k < length xs → f (get_or xs k d) ≡ g (get_or xs k d)) → map f xs ≡ map g xs
map_alike f g [] same = refl
map_alike f g (x ∷ xs) same =
    ap₂ (λ y ys. y ∷ ys) (same 0 x (omega arith)) (map_alike f g xs (λ k d few. same (suc k) d (omega arith)))

-- up to the horizon the demand is told
told_near : (l : Load) (last t : ℕ) → t ≤ horizon → point_told l last t ≡ point_at l last t
told_near l last t near =
    ap (λ b. record
    { at = t; demand = unwrap_or (if b then Some (demand l t) else None) 0; tested = is_tested l last t })
    (le-leb t horizon near)

-- so it is at every instant of a window that ends there
pub all_told : (l : Load) (last : ℕ) (kept : BTreeSet ℕ) → last ≤ horizon → DrawsWithin last kept
    → map (point_told l last) kept.keys ≡ map (point_at l last) kept.keys
all_told l last kept near within =
    map_alike (point_told l last) (point_at l last) kept.keys
    (λ k d few. let inside = (within _ (All-set_contains nat_cmp_total kept k d few)).1 in
    told_near l last _ (omega (arith, inside, near)))
