-- The lines that end in what is left of a text, and what stands before its next record, a byte more at a time.
use Rattle.std.proofs.Common.{◌≡◌, ℕ, suc, ◌+◌, ◌<◌, ◌≤◌, Bool, true, false, List, None, Some, drop, get_or, length}
use Rattle.std.proofs.Common.{refl, ap, ◌∙◌, arith}
use Rattle.std.specs.Option.{option_map_or}
use Rattle.std.specs.Prelude.{if◌then◌else◌}
use Rattle.std.proofs.lemmas.List.{at_drop_all, at_drop_more}
use Rattle.task_tables.specs.Lines.{ended_behind, ends_line_behind, passed_over, passes}

-- a byte more of those in which lines end
pub ended_more : (xs : List ℕ) (i d previous : ℕ) → i < length xs
    → ended_behind previous (drop i xs)
    ≡ (if ends_line_behind previous (get_or xs i d) then 1 else 0) + ended_behind (get_or xs i d) (drop (i + 1) xs)
unfolding ended_behind
ended_more xs i d previous lt = at_drop_more (ended_behind previous) xs i d lt

pub ended_all : (xs : List ℕ) (i previous : ℕ) → length xs ≤ i → ended_behind previous (drop i xs) ≡ 0
unfolding ended_behind
ended_all xs i previous le = at_drop_all (ended_behind previous) xs i le

pub passed_all : (xs : List ℕ) (i : ℕ) (c : Bool) → length xs ≤ i → passed_over c (drop i xs) ≡ 0
unfolding passed_over
passed_all xs i c le = at_drop_all (passed_over c) xs i le

-- a byte that is passed over, and one that is not
passed_more : (xs : List ℕ) (i d : ℕ) (c : Bool) → i < length xs
    → passed_over c (drop i xs)
    ≡ option_map_or (λ next. suc (passed_over next (drop (i + 1) xs))) (passes c (get_or xs i d)) 0
unfolding passed_over
passed_more xs i d c lt = at_drop_more (passed_over c) xs i d lt

pub passed_next : (xs : List ℕ) (i d : ℕ) (c next : Bool) (total : ℕ) → i < length xs
    → passes c (get_or xs i d) ≡ Some next
    → i + passed_over c (drop i xs) ≡ total → (i + 1) + passed_over next (drop (i + 1) xs) ≡ total
passed_next xs i d c next total lt e before =
    let more : passed_over c (drop i xs) ≡ suc (passed_over next (drop (i + 1) xs)) =
    passed_more xs i d c lt ∙ rw e refl in
    omega arith

pub passed_stop : (xs : List ℕ) (i d : ℕ) (c : Bool) (total : ℕ) → i < length xs → passes c (get_or xs i d) ≡ None
    → i + passed_over c (drop i xs) ≡ total → i ≡ total
passed_stop xs i d c total lt e before =
    let stop : passed_over c (drop i xs) ≡ 0 = passed_more xs i d c lt ∙ rw e refl in
    omega arith

-- a byte that ends a line, and one that ends none
pub one_ended : (xs : List ℕ) (i d previous ended total : ℕ) → i < length xs
    → ends_line_behind previous (get_or xs i d) ≡ true
    → ended + ended_behind previous (drop i xs) ≡ total
    → (ended + 1) + ended_behind (get_or xs i d) (drop (i + 1) xs) ≡ total
one_ended xs i d previous ended total lt e before =
    let one : (if ends_line_behind previous (get_or xs i d) then 1 else 0) ≡ 1 = rw e refl in
    let more : ended_behind previous (drop i xs) ≡ 1 + ended_behind (get_or xs i d) (drop (i + 1) xs) =
    ended_more xs i d previous lt ∙ ap (λ n. n + ended_behind (get_or xs i d) (drop (i + 1) xs)) one in
    omega arith

pub none_ended : (xs : List ℕ) (i d previous ended total : ℕ) → i < length xs
    → ends_line_behind previous (get_or xs i d) ≡ false
    → ended + ended_behind previous (drop i xs) ≡ total → ended + ended_behind (get_or xs i d) (drop (i + 1) xs) ≡ total
none_ended xs i d previous ended total lt e before =
    let none : (if ends_line_behind previous (get_or xs i d) then 1 else 0) ≡ 0 = rw e refl in
    let more : ended_behind previous (drop i xs) ≡ 0 + ended_behind (get_or xs i d) (drop (i + 1) xs) =
    ended_more xs i d previous lt ∙ ap (λ n. n + ended_behind (get_or xs i d) (drop (i + 1) xs)) none in
    omega arith
