-- Headings that name no columns of a table.
use Rattle.std.proofs.Common.{◌≡◌, ℕ, zero, suc, ◌+◌, ◌<◌, ◌==◌, Bor, true, false, None, Some, List, [], ◌∷◌, ◌++◌}
use Rattle.std.proofs.Common.{length, map, take, get_or, refl, sym, ap, subst, ◌∙◌, arith}
use Rattle.std.proofs.lemmas.List.{append_assoc}
use Rattle.std.specs.List.{AllByRecursion, IsDistinct, take-map}
use Rattle.task_tables.specs.declared.columns.Column.{Column}
use Rattle.task_tables.specs.Columns.{AreDistinct, column_named, column_number, has_column, has_numbers}
use Rattle.task_tables.specs.Refusals.{AreNoHeading}
use Rattle.task_tables.specs.Told.{columns_of}
use Rattle.task_tables.proofs.Distinct.{named_more}

-- headings name no more than one list of columns
pub same_columns : (cs ds : List Column) → map (λ (c : Column). Some c) cs ≡ map (λ (c : Column). Some c) ds → cs ≡ ds
same_columns [] [] e = refl
same_columns [] (d ∷ ds) e = absurd (cc)
same_columns (c ∷ cs) [] e = absurd (cc)
same_columns (c ∷ cs) (d ∷ ds) e =
    let one : c ≡ d = cc in
    let others : map (λ (c : Column). Some c) cs ≡ map (λ (c : Column). Some c) ds = cc in
    rw (one, same_columns cs ds others) refl

-- a heading that names no column
unnamed_at : (hs : List (Bor (List ℕ))) (i : ℕ) (d : Bor (List ℕ)) (cs : List Column) → i < length hs
    → column_named (get_or hs i d).now ≡ None
    → map column_named (map (λ (h : Bor (List ℕ)). h.now) hs) ≡ map (λ (c : Column). Some c) cs → ⊥
unnamed_at [] i d cs lt none e = omega arith
unnamed_at (h ∷ hs) i d [] lt none e = absurd (cc)
unnamed_at (h ∷ hs) zero d (c ∷ cs) lt none e =
    let some : column_named h.now ≡ Some c = cc in
    absurd (cc)
unnamed_at (h ∷ hs) (suc i) d (c ∷ cs) lt none e = unnamed_at hs i d cs (omega arith) none (cc)

pub unnamed : (hs : List (Bor (List ℕ))) (i : ℕ) (d : Bor (List ℕ)) → i < length hs
    → column_named (get_or hs i d).now ≡ None → AreNoHeading (map (λ (h : Bor (List ℕ)). h.now) hs)
unnamed hs i d lt none cs h = unnamed_at hs i d cs lt none h.named

-- a heading that stands there twice
all_there : (P : Column → Type 0) (xs : List Column) (y : Column) (rest : List Column)
    → AllByRecursion P (xs ++ y ∷ rest) → P y
all_there P [] y rest h = h.0
all_there P (x ∷ xs) y rest h = all_there P xs y rest h.1

twice : (xs : List Column) (y : Column) (rest : List Column) → AreDistinct (xs ++ y ∷ rest) → has_column xs y ≡ false
unfolding IsDistinct
twice [] y rest d = refl
twice (x ∷ xs) y rest d =
    rw (all_there (λ z. (column_number x == column_number z) ≡ false) xs y rest d.0, twice xs y rest d.1) refl

one_more : (c x : Column) (cs xs : List Column) → c ≡ x → cs ≡ xs → c ∷ cs ≡ x ∷ xs
one_more c x cs xs one others = rw (one, others) refl

-- columns that begin with those that some headings in front name
map_split : (cs xs : List Column) (hs : List (List ℕ)) (i : ℕ) → map column_named hs ≡ map (λ (c : Column). Some c) cs
    → map column_named (take i hs) ≡ map (λ (c : Column). Some c) xs → (rest : List Column) × (cs ≡ xs ++ rest)
map_split cs [] hs i all some = (cs, refl)
map_split cs (x ∷ xs) hs zero all some = absurd (cc)
map_split cs (x ∷ xs) [] (suc i) all some = absurd (cc)
map_split [] (x ∷ xs) (h ∷ hs) (suc i) all some = absurd (cc)
map_split (c ∷ cs) (x ∷ xs) (h ∷ hs) (suc i) all some =
    let at_c : column_named h ≡ Some c = cc in
    let at_x : column_named h ≡ Some x = cc in
    let one : c ≡ x = cc in
    let rest = map_split cs xs hs i (cc) (cc) in
    (rest.0, one_more c x cs (xs ++ rest.0) one rest.1)

pub named_twice : (hs : List (Bor (List ℕ))) (i : ℕ) (d : Bor (List ℕ)) (columns : List Column) (column : Column)
    → i < length hs
    → map column_named (map (λ (h : Bor (List ℕ)). h.now) (take i hs)) ≡ map (λ c. Some c) columns
    → column_named (get_or hs i d).now ≡ Some column
    → has_column columns column ≡ true → AreNoHeading (map (λ (h : Bor (List ℕ)). h.now) hs)
named_twice hs i d columns column lt before named has cs h =
    let more = named_more columns hs i d column lt before named in
    let front : map column_named (take (i + 1) (map (λ (h : Bor (List ℕ)). h.now) hs))
    ≡ map (λ (c : Column). Some c) (columns ++ column ∷ []) =
    ap (map column_named) (take-map (λ (h : Bor (List ℕ)). h.now) (i + 1) hs) ∙ more in
    let rest = map_split cs (columns ++ column ∷ []) (map (λ (h : Bor (List ℕ)). h.now) hs) (i + 1) h.named front in
    let shape : cs ≡ columns ++ column ∷ rest.0 = rest.1 ∙ append_assoc columns (column ∷ []) rest.0 in
    let once : has_column columns column ≡ false = twice columns column rest.0 (subst AreDistinct shape h.once) in
    absurd (cc)

-- columns without those that must be there
pub unnumbered : (hs : List (List ℕ)) (columns : List Column)
    → map column_named hs ≡ map (λ (c : Column). Some c) columns → has_numbers columns ≡ false → AreNoHeading hs
unnumbered hs columns named lacks cs h =
    let same : cs ≡ columns = same_columns cs columns (sym h.named ∙ named) in
    let has : has_numbers columns ≡ true = subst (λ ds. has_numbers ds ≡ true) same h.numbers in
    absurd (cc)

-- the columns that headings name are those that they name each in turn
pub columns_are : (hs : List (List ℕ)) (columns : List Column)
    → map column_named hs ≡ map (λ (c : Column). Some c) columns → columns ≡ columns_of hs
unfolding columns_of
columns_are [] [] e = refl
columns_are [] (c ∷ cs) e = absurd (cc)
columns_are (h ∷ hs) [] e = absurd (cc)
columns_are (h ∷ hs) (c ∷ cs) e =
    let one : column_named h ≡ Some c = cc in
    let others : map column_named hs ≡ map (λ (c : Column). Some c) cs = cc in
    rw (one, columns_are hs cs others) refl
