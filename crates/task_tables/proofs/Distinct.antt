-- Columns that are named one more at a time.
use Rattle.std.proofs.Common.{◌≡◌, ℕ, ◌+◌, ◌<◌, ◌==◌, Bor, false, List, [], ◌∷◌, ◌++◌, length, map, take, get_or, Some}
use Rattle.std.proofs.Common.{refl, add-one}
use Rattle.std.proofs.Math.Seq.{take-suc}
use Rattle.std.proofs.lemmas.List.{map-append}
use Rattle.std.specs.List.{AllByRecursion, IsDistinct}
use Rattle.std.proofs.lemmas.Bool.{or_parts}
use Rattle.task_tables.specs.declared.columns.Column.{Column}
use Rattle.task_tables.specs.Columns.{AreDistinct, column_number, column_named, has_column, is_column}

others : (x y : Column) (xs : List Column) → is_column y x ≡ false
    → AllByRecursion (λ z. (column_number x == column_number z) ≡ false) xs
    → AllByRecursion (λ z. (column_number x == column_number z) ≡ false) (xs ++ y ∷ [])
others x y [] e h = (e, tt)
others x y (z ∷ xs) e h = (h.0, others x y xs e h.1)

pub distinct_more : (xs : List Column) (y : Column) → AreDistinct xs → has_column xs y ≡ false
    → AreDistinct (xs ++ y ∷ [])
unfolding IsDistinct
distinct_more [] y d h = (tt, tt)
distinct_more (x ∷ xs) y d h =
    let p = or_parts (is_column y x) (has_column xs y) h in
    (others x y xs p.0 d.0, distinct_more xs y d.1 p.1)

pub distinct_none : AreDistinct []
unfolding IsDistinct
distinct_none = tt

-- a heading more that names a column
pub named_more : (cs : List Column) (hs : List (Bor (List ℕ))) (i : ℕ) (d : Bor (List ℕ)) (column : Column)
    → i < length hs
    → map column_named (map (λ (h : Bor (List ℕ)). h.now) (take i hs)) ≡ map (λ c. Some c) cs
    → column_named (get_or hs i d).now ≡ Some column
    → map column_named (map (λ (h : Bor (List ℕ)). h.now) (take (i + 1) hs)) ≡ map (λ c. Some c) (cs ++ column ∷ [])
named_more cs hs i d column lt before named =
    rw (
      add-one i,
      take-suc hs i d lt,
      map-append (λ (h : Bor (List ℕ)). h.now) (take i hs) (get_or hs i d ∷ []),
      map-append column_named (map (λ (h : Bor (List ℕ)). h.now) (take i hs)) ((get_or hs i d).now ∷ []),
      map-append (λ (c : Column). Some c) cs (column ∷ []),
      before,
      named,
    ) refl
