-- The least common multiple of the periods of a table, period by period.
use Rattle.std.proofs.Common.{◌≡◌, ℕ, ◌+◌, ◌%◌, ◌<◌, ◌≤◌, Bool, true, false, eqb, leb, List, [], ◌∷◌, length, get_or}
use Rattle.std.proofs.Common.{take, Some, None, refl, sym, ◌∙◌, subst, arith}
use Rattle.std.proofs.lemmas.Bool.{and_from, and_parts, leb-true, eq-eqb, eqb-true}
use Rattle.std.proofs.lemmas.List.{take_all}
use Rattle.std.proofs.lemmas.List.Folds.{list_all_more}
use Rattle.std.proofs.lemmas.List.Sums.{AllPass-from_list_all, list_all-from_AllPass}
use Rattle.std.proofs.lemmas.List.Elements.{All-take}
use Rattle.rows.specs.declared.tasks.Numbers.{Numbers}
use Rattle.rows.specs.Times.{horizon}
use Rattle.bounds.specs.Instants.{IsFirst}
use Rattle.bounds.specs.Lemmas.Instants.{least_some, least_none}
use Rattle.filings.specs.Frames.{is_common, least_multiple, IsLeastMultiple, HasNoFrame, IsJoined, CannotBeJoined}
use Rattle.std.proofs.lemmas.Nat.Gcd.{dvd_of_mod-eq-zero, dvd_trans, le_of_dvd, mod-eq-zero_of_dvd}
use Prim.Native.Nat.{◌∣◌}

-- what a place past the table would hold
abbrev pub nothing : Numbers
nothing = record { work = 0; deadline = 0; period = 0; jitter = 0 }

-- a test that does not hold fails
is_false : (b : Bool) → (b ≡ true → ⊥) → b ≡ false
is_false true not_true = absurd (not_true refl)
is_false false not_true = refl

module _ (table : List Numbers) (i : ℕ) (d : Numbers) (within : i < length table) (h : ℕ)
    (before : IsLeastMultiple (take i table) h) where
  abbrev period : ℕ
  period = (get_or table i d).period

  -- a common multiple of one period more is one of those before, and of this one
  parts : (m : ℕ) → is_common (take (i + 1) table) m ≡ true → (is_common (take i table) m ≡ true) × (m % period ≡ 0)
  parts m all =
      let both = and_parts _ _ (sym (list_all_more (λ n. eqb (m % n.period) 0) table i d within) ∙ all) in
      (both.0, eqb-true (m % period) 0 both.1)

  -- that of one period more is joined from that of the periods before and this one
  pub joined_more : (l : ℕ) → IsJoined h period l → IsLeastMultiple (take (i + 1) table) l
  joined_more l joined = record {
    frame = joined.frame;
    common = list_all_more (λ n. eqb (l % n.period) 0) table i d within
        ∙ and_from _ _ (kept (take i table) before.common) (eq-eqb (l % period) 0 joined.second);
    each = λ m all. let both = parts m all in joined.each m (before.each m both.0) both.1;
  }
    where
      kept : (ns : List Numbers) → is_common ns h ≡ true → is_common ns l ≡ true
      kept [] all = refl
      kept (n ∷ ns) all =
          let both = and_parts _ _ all in
          let here : n.period ∣ l =
          dvd_trans n.period (dvd_of_mod-eq-zero n.period (eqb-true (h % n.period) 0 both.0))
          (dvd_of_mod-eq-zero h joined.first) in
          and_from _ _ (eq-eqb (l % n.period) 0 (mod-eq-zero_of_dvd n.period here)) (kept ns both.1)

  -- where no frame can be joined with a period, the table has none
  pub none_more : CannotBeJoined h period → HasNoFrame table
  none_more cannot m low near =
      is_false (is_common table m)
      (λ all.
      let test : Numbers → Bool = λ n. eqb (m % n.period) 0 in
      let first = list_all-from_AllPass test (take (i + 1) table)
      (All-take (λ n. test n ≡ true) (i + 1) table (AllPass-from_list_all test table all)) in
      let both = parts m first in
      cannot m low near (before.each m both.0) both.1)

-- a table without a frame has none
pub none_is : (table : List Numbers) → HasNoFrame table → None ≡ least_multiple table
unfolding least_multiple
none_is table none = sym (least_none (is_common table) horizon 0 (λ m low high. none m low (omega (arith, high))))

-- it is what it is defined to be
pub multiple_is : (table : List Numbers) (h : ℕ) → IsLeastMultiple table h → Some h ≡ least_multiple table
unfolding least_multiple
multiple_is table h common =
    let both = and_parts (leb 1 h) (leb h horizon) common.frame in
    let low = leb-true 1 h both.0 in
    let near = leb-true h horizon both.1 in
    let first : IsFirst (is_common table) 0 horizon h =
    record {
      after = omega (arith, low);
      within = near;
      holds = common.common;
      none = λ m above below.
          is_false (is_common table m)
          (λ all. let least : h ≤ m = le_of_dvd (omega (arith, above)) (dvd_of_mod-eq-zero h (common.each m all)) in
          omega (arith, least, below));
    } in
    sym (least_some (is_common table) horizon 0 horizon h first (omega (arith, near)))

-- once every period is joined, it is the table's
pub all_joined : (table : List Numbers) (i h : ℕ) → length table ≤ i → IsLeastMultiple (take i table) h
    → IsLeastMultiple table h
all_joined table i h done common = subst (λ ns. IsLeastMultiple ns h) (take_all i table done) common
