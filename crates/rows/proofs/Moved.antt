-- An element put into a list or taken out, and lists that are written over.
use Rattle.std.proofs.Common.{◌≡◌, ℕ, suc, ◌+◌, ◌-◌, ◌<◌, ◌≤◌, List, [], ◌∷◌, ◌++◌, length, take, drop, set, refl, sym}
use Rattle.std.proofs.Common.{ap, ◌∙◌, ap₂, arith}
use Rattle.std.specs.List.{insert, remove, copy_within, refill}
use Rattle.std.proofs.lemmas.List.{append-nil, append_assoc, drop-take, drop_at, length-append, length-drop}
use Rattle.std.proofs.lemmas.List.{length-take-le, nil_from_length, set_split, take-append-drop, take-append-le}
use Rattle.std.proofs.lemmas.List.{take-take, take_all, take_at}
use Rattle.std.proofs.lemmas.List.Edits.{length-paste, take-paste}
use Rattle.rows.specs.Lists.{written}

-- with the elements from a place on moved down by one, and a new one at the place, the new one is put in
moved_down : {X : Type 0} (old : List X) (place last : ℕ) (x : X) → last + 1 ≡ length old → place ≤ last
    → set (copy_within old place last (place + 1)) place x ≡ insert (take last old) place x
moved_down old place last x whole within =
    let n = last - place in
    let tail = drop place old in
    let all = copy_within old place last (place + 1) in
    let tail-length = length-drop place old in
    let size = length-paste old (place + 1) tail n (omega arith) (omega arith) in
    let end : length all ≤ place + 1 + n = omega arith in
    let is : all ≡ take (place + 1) old ++ take n tail =
    sym (take_all (place + 1 + n) all end) ∙ take-paste old (place + 1) tail n (omega arith) (omega arith) in
    let front = length-take-le (place + 1) old (omega arith) in
    let before : take place all ≡ take place (take last old) =
    ap (take place) is ∙ take-append-le place (take (place + 1) old) (take n tail) (omega arith)
    ∙ take-take place (place + 1) old (omega arith) ∙ sym (take-take place last old within) in
    let up : place + n ≡ last = omega arith in
    let after : drop (suc place) all ≡ drop place (take last old) =
    ap (drop (suc place)) is ∙ drop_at (take (place + 1) old) (take n tail) (suc place) (omega arith)
    ∙ sym (drop-take place n old) ∙ ap (λ l. drop place (take l old)) up in
    set_split all place x (omega arith) ∙ ap₂ (λ xs ys. xs ++ x ∷ ys) before after

-- with the elements from a rank on moved down by one, and a new one at the rank, the new one is put in
pub moved_from_rank : {X : Type 0} (old now : List X) (rank : ℕ) (x : X) → 1 ≤ rank → rank ≤ length old
    → now ≡ copy_within old (rank - 1) (length old - 1) rank
    → set now (rank - 1) x ≡ insert (take (length old - 1) old) (rank - 1) x
moved_from_rank old now rank x low high moved =
    let place = rank - 1 in
    let last = length old - 1 in
    let up : rank ≡ place + 1 = omega arith in
    let is : now ≡ copy_within old place last (place + 1) = moved ∙ ap (copy_within old place last) up in
    ap (λ xs. set xs place x) is ∙ moved_down old place last x (omega arith) (omega arith)

-- where a list is written from a place on with what another has there, and has the same before it, it has the other in
-- front
pub whole_front : {X : Type 0} (old all new : List X) (from : ℕ) → new ≡ written old from (drop from all)
    → take from old ≡ take from all → take (length all) new ≡ all
whole_front old all new from put same =
    let rest = drop (from + length (drop from all)) old in
    let is : new ≡ all ++ rest =
    put ∙ ap (λ xs. xs ++ (drop from all ++ rest)) same ∙ sym (append_assoc (take from all) (drop from all) rest)
    ∙ ap (λ xs. xs ++ rest) (take-append-drop from all) in
    ap (take (length all)) is ∙ take_at all rest (length all) refl

-- a list with an element put in has the elements before it and itself in front
pub insert_front : {X : Type 0} (xs : List X) (k : ℕ) (x : X) → k ≤ length xs
    → take (k + 1) (insert xs k x) ≡ take k xs ++ x ∷ []
insert_front xs k x within =
    ap (take (k + 1)) (sym (append_assoc (take k xs) (x ∷ []) (drop k xs)))
    ∙ take_at (take k xs ++ x ∷ []) (drop k xs) (k + 1)
    (omega (arith, length-append (take k xs) (x ∷ []), length-take-le k xs within))

-- a list with an element put in has one element more
pub length_insert : {X : Type 0} (xs : List X) (k : ℕ) (x : X) → k ≤ length xs → length (insert xs k x) ≡ length xs + 1
length_insert xs k x within =
    omega (arith, length-append (take k xs) (x ∷ drop k xs), length-take-le k xs within, length-drop k xs)

-- with an element taken out, a list has one less
pub length_remove : {X : Type 0} (xs : List X) (k : ℕ) → k < length xs → length (remove xs k) + 1 ≡ length xs
length_remove xs k within =
    omega (
      arith,
      length-append (take k xs) (drop (suc k) xs),
      length-take-le k xs (omega arith),
      length-drop (suc k) xs,
    )

-- a list that is written over is as long as it was
pub length_written : {X : Type 0} (old new : List X) (from : ℕ) → from + length new ≤ length old
    → length (written old from new) ≡ length old
length_written old new from within =
    omega (
      arith,
      length-append (take from old) (new ++ drop (from + length new) old),
      length-append new (drop (from + length new) old),
      length-take-le from old (omega arith),
      length-drop (from + length new) old,
    )

-- an element taken out of a list whose last place then goes
pub out_cut : {X : Type 0} (rows out more : List X) (k n m : ℕ) → n + 1 ≡ length rows → k ≤ n → n ≤ m
    → out ≡ remove rows k ++ drop (length rows - 1) rows → take n (take m (out ++ more)) ≡ remove rows k
out_cut rows out more k n m fewer within room is =
    let rest = drop (length rows - 1) rows in
    take-take n m (out ++ more) room ∙ ap (λ xs. take n (xs ++ more)) is
    ∙ ap (take n) (append_assoc (remove rows k) rest more)
    ∙ take_at (remove rows k) (rest ++ more) n (omega (arith, length_remove rows k (omega arith)))

-- a lent list of as many places as before is what is left
pub refilled : {X : Type 0} (old new : List X) → length new ≡ length old → refill (length old) old new ≡ new
refilled old new size =
    let none : drop (length new) old ≡ [] =
    nil_from_length (drop (length new) old) (omega (arith, length-drop (length new) old)) in
    ap (λ xs. take (length old) (new ++ xs)) none ∙ ap (take (length old)) (append-nil new)
    ∙ take_all (length old) new (omega arith)
