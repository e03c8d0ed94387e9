-- Rows whose next corners are counted in turn, by a tree of keys.
use Rattle.std.proofs.Common.{◌≡◌, ◌≢◌, ◌⊎◌, ℕ, zero, suc, ◌+◌, ◌-◌, ◌*◌, ◌/◌, ◌%◌, ◌<◌, ◌≤◌, true, false, ltb}
use Rattle.std.proofs.Common.{List, [], ◌∷◌, get_or, slice_index_or, slice_set, length, map, unwrap_or, Some, None}
use Rattle.std.proofs.Common.{Option, MatchOption, sym, refl, ap, ◌∙◌, subst, inl, inr, ⊎_elim, arith, if◌then◌else◌}
use Rattle.std.proofs.lemmas.Nat.{div-add-mod', mod_below}
use Rattle.std.proofs.lemmas.Bool.{cases_lt, cases_order, lt-ltb, le-ltb, ltb-true, eqb-true, and_parts}
use Rattle.std.proofs.lemmas.Grind.{get_or-set_at}
use Rattle.std.proofs.lemmas.List.{get_or-set_other, get_or_default, length-set}
use Rattle.std.proofs.lemmas.List.Folds.{list_any_none, list_any_at}
use Rattle.std.proofs.lemmas.List.Elements.{All-from_get_or}
use Rattle.rows.specs.declared.tasks.Row.{Row}
use Rattle.rows.specs.Times.{horizon}
use Rattle.bounds.specs.Answering.{corner_after}
use Rattle.bounds.specs.Instants.{count, IsFirst}
use Rattle.bounds.specs.Lemmas.Instants.{least_after, count_same, count_first}
use Rattle.bounds.specs.Meaning.{Meaning}
use Rattle.std.specs.Prelude.{◌&&◌, ◌==◌, nat_lt}
use Rattle.findings.specs.Counting.{is_corner_above, next_after}
use Rattle.findings.specs.Demand.{Load}
use Rattle.findings.specs.Points.{is_bend}
use Rattle.findings.specs.Trees.{IsTree, LeavesUnder}
use Rattle.findings.proofs.Kept.{there, told_at}

-- the row at a place has its next corner at x, from t on, or none up to the horizon, where x is the instant past that
pub record Turn (l : Load) (t k x : ℕ) : Type 0 where
  pub low : t ≤ x
  pub high : x ≤ horizon + 1
  pub corner : (r : Row) → x ≤ horizon → l.bound.is_corner (get_or l.above k r) x ≡ true
  pub none : (r : Row) (u : ℕ) → t < u → u < x → l.bound.is_corner (get_or l.above k r) u ≡ false

-- each row has its turn where the list tells
abbrev pub Turns : Load → ℕ → List ℕ → Type 0
Turns l t nexts = (k : ℕ) → k < length l.above → Turn l t k (slice_index_or nexts k 0)

-- what a next corner after t is
next_is : (m : Meaning) (r : Row) (t x : ℕ) → t ≤ horizon → x ≡ next_after m t r
    → (t < x) × (x ≤ horizon + 1) × (x ≤ horizon → m.is_corner r x ≡ true) ×
    ((u : ℕ) → t < u → u < x → m.is_corner r u ≡ false)
next_is m r t x near is = rw is (at (corner_after m r t) (least_after (m.is_corner r) (horizon - t) t))
  where
    at : (o : Option ℕ) → MatchOption o ((i : ℕ) → t < i → i ≤ t + (horizon - t) → m.is_corner r i ≡ false)
        (IsFirst (m.is_corner r) t (t + (horizon - t)))
        → (t < unwrap_or o (horizon + 1)) × (unwrap_or o (horizon + 1) ≤ horizon + 1) ×
        (unwrap_or o (horizon + 1) ≤ horizon → m.is_corner r (unwrap_or o (horizon + 1)) ≡ true)
        × ((u : ℕ) → t < u → u < unwrap_or o (horizon + 1) → m.is_corner r u ≡ false)
    at None none = (omega arith, omega arith, λ within. absurd (omega arith), λ u low high. none u low (omega arith))
    at (Some c) first = (first.after, omega (arith, first.within), λ within. first.holds, first.none)

-- a row whose next corner after t is known has its turn there
pub turn_after : (l : Load) (t k x : ℕ) → t ≤ horizon → k < length l.above
    → ((r : Row) → x ≡ next_after l.bound t (get_or l.above k r)) → (t < x) × Turn l t k x
turn_after l t k x near small is =
    let first = next_is l.bound _ t x near (is (there l.above k small)) in (
      first.0,
      record {
        low = omega (arith, first.0);
        high = first.1;
        corner = λ r within. (next_is l.bound _ t x near (is r)).2 within;
        none = λ r u low high. (next_is l.bound _ t x near (is r)).3 u low high;
      },
    )

-- a row whose next corner is known with some row past the last has its turn there
pub next_turn : (l : Load) (t k x : ℕ) (d : Row) → t ≤ horizon → k < length l.above
    → x ≡ next_after l.bound t (get_or l.above k d) → (t < x) × Turn l t k x
next_turn l t k x d near small is = turn_after l t k x near small
    (λ r. is ∙ ap (next_after l.bound t) (get_or_default l.above k d r small))

-- at first each row has its turn where the list tells
pub turns_start : (l : Load) (t : ℕ) (nexts : List ℕ) → t ≤ horizon → nexts ≡ map (next_after l.bound t) l.above
    → Turns l t nexts
turns_start l t nexts near is k small = (turn_after l t k (slice_index_or nexts k 0) near small
    (λ r. told_at l.bound t l.above nexts is k r small)).1

module _ (l : Load) (t at : ℕ) (nexts : List ℕ) (turns : Turns l t nexts)
    (least : (k : ℕ) → k < length l.above → at ≤ slice_index_or nexts k 0) where
  -- between t and the least of the turns there is no corner
  pub none_before : (u : ℕ) → t < u → u < at → is_corner_above l u ≡ false
  none_before u low high = from l.above refl
    where
      from : (rs : List Row) → rs ≡ l.above → is_bend l.bound rs u ≡ false
      from [] e = refl
      from (r ∷ rs) e = list_any_none (λ x. l.bound.is_corner x u) (r ∷ rs)
          (All-from_get_or (λ x. l.bound.is_corner x u ≡ false) (r ∷ rs) r (λ k small.
          let place : k < length l.above = subst (λ xs. k < length xs) e small in
          ap (λ xs. l.bound.is_corner (get_or xs k r) u) e
          ∙ (turns k place).none r u low (omega (arith, least k place))))

  -- what is counted up to t is counted up to any instant before the least of the turns
  pub counted_before : (end : ℕ) → t ≤ end → end < at → count (is_corner_above l) end ≡ count (is_corner_above l) t
  counted_before end within early =
      let e : t + (end - t) ≡ end = omega arith in
      ap (count (is_corner_above l)) (sym e) ∙ count_same (is_corner_above l) (end - t) t
      (λ u low high. none_before u low (omega arith))

  -- at the turn of a row there is one corner more, unless it is counted
  module _ (p : ℕ) (small : p < length l.above) (here : slice_index_or nexts p 0 ≡ at) (near : at ≤ horizon) where
    is_corner_there : is_corner_above l at ≡ true
    is_corner_there =
        let r = there l.above p small in
        list_any_at (λ x. l.bound.is_corner x at) l.above p r small
        (ap (λ x. l.bound.is_corner (get_or l.above p r) x) (sym here) ∙ (turns p small).corner r (omega (arith, here)))

    pub counted_there : (corners : ℕ) → corners ≡ count (is_corner_above l) t
        → corners + (if ltb t at then 1 else 0) ≡ count (is_corner_above l) at
    counted_there corners tally = elim (cases_lt t at) [
      | inl later ↦
          let first : IsFirst (is_corner_above l) t at at =
          record { after = later; within = omega arith; holds = is_corner_there; none = none_before } in
          ap (λ b. corners + (if b then 1 else 0)) (lt-ltb t at later)
          ∙ omega (arith, tally, count_first (is_corner_above l) t at at first)
      | inr same ↦
          let e : at ≡ t = omega (arith, (turns p small).low, here) in
          ap (λ b. corners + (if b then 1 else 0)) (le-ltb t at same)
          ∙ omega (arith, tally, ap (count (is_corner_above l)) e)
    ]

    -- a row whose turn it was goes on to its next corner, and the others stay
    pub turns_on : (x : ℕ) → ((r : Row) → x ≡ next_after l.bound at (get_or l.above p r))
        → length nexts ≡ length l.above → Turns l at (slice_set nexts p x)
    turns_on x is size k place = elim (cases_order k p) [
      | inl same ↦
          subst (Turn l at k) (sym (get_or-set_at nexts p k x 0 same (omega (arith, size))))
          (subst (λ n. Turn l at n x) (sym same) ((turn_after l at p x near small is).1))
      | inr other ↦
          let old = turns k place in
          subst (Turn l at k) (sym (get_or-set_other nexts p k x 0 (apart k other)))
          (record {
            low = least k place;
            high = old.high;
            corner = old.corner;
            none = λ r u low high. old.none r u (omega (arith, (turns p small).low, here)) high;
          })
    ]
      where
        apart : (k : ℕ) → (k < p) ⊎ (p < k) → k ≢ p
        apart k other = ⊎_elim (λ l. omega arith) (λ l. omega arith) other

-- at the root of a tree stands no more than at any node
pub root_under : (keys : List ℕ) → IsTree keys → (f k : ℕ) → k ≤ f → 1 ≤ k → k < 64
    → slice_index_or keys 1 0 ≤ slice_index_or keys k 0
root_under keys tree zero k fuel some within = absurd (omega arith)
root_under keys tree (suc f) k fuel some within = elim (cases_lt 1 k) [
  | inr low ↦ let e : 1 ≡ k = omega arith in subst (λ j. slice_index_or keys 1 0 ≤ slice_index_or keys j 0) e
      (omega arith)
  | inl high ↦
      let half = div-add-mod' k 2 in
      let odd = mod_below k 2 (omega arith) in
      let up = root_under keys tree f (k / 2) (omega arith) (omega arith) (omega arith) in
      let below = tree (k / 2) (omega arith) (omega arith) in
      elim (cases_lt (k % 2) 1) [
        | inl even ↦ let e : 2 * (k / 2) ≡ k = omega arith in
            subst (λ j. slice_index_or keys 1 0 ≤ slice_index_or keys j 0) e (omega (arith, up, below.0))
        | inr one ↦ let e : 2 * (k / 2) + 1 ≡ k = omega arith in
            subst (λ j. slice_index_or keys 1 0 ≤ slice_index_or keys j 0) e (omega (arith, up, below.1))
      ]
]

-- the instant at the root is no later than any of the list
pub root_least : (keys nexts : List ℕ) → IsTree keys → LeavesUnder nexts keys → length nexts ≤ 32 → (k : ℕ)
    → k < length nexts → slice_index_or keys 1 0 / 32 ≤ slice_index_or nexts k 0
root_least keys nexts tree leaves few k small =
    let root = div-add-mod' (slice_index_or keys 1 0) 32 in
    omega (
      arith,
      root,
      root_under keys tree (32 + k) (32 + k) (omega arith) (omega arith)
          (omega arith),
      leaves k small,
    )

-- the place and the instant at the root, where it is the turn of that place
pub turn_at : (nexts : List ℕ) (p at : ℕ) → (nat_lt p (length nexts) && slice_index_or nexts p 0 == at) ≡ true
    → (p < length nexts) × (slice_index_or nexts p 0 ≡ at)
turn_at nexts p at here =
    let parts = and_parts (nat_lt p (length nexts)) (slice_index_or nexts p 0 == at) here in
    (ltb-true p (length nexts) parts.0, eqb-true (slice_index_or nexts p 0) at parts.1)

-- a leaf that is raised with its instant stands under it, and so do the others
pub leaves_raised : (keys new nexts : List ℕ) (p x : ℕ) → LeavesUnder nexts keys → p < length nexts → p < 32
    → slice_index_or new (32 + p) 0 ≡ x * 32 + p
    → ((k : ℕ) → 32 ≤ k → k ≢ 32 + p → slice_index_or new k 0 ≡ slice_index_or keys k 0)
    → LeavesUnder (slice_set nexts p x) new
leaves_raised keys new nexts p x leaves small room there others k within = elim (cases_order k p) [
  | inl same ↦
      let e : 32 + k ≡ 32 + p = omega arith in
      omega (arith, get_or-set_at nexts p k x 0 same small, ap (λ n. slice_index_or new n 0) e, there)
  | inr other ↦
      let far : k ≢ p = ⊎_elim (λ l. omega arith) (λ l. omega arith) other in
      let size = length-set nexts p x in
      omega (
        arith,
        get_or-set_other nexts p k x 0 far,
        others (32 + k) (omega arith)
            (⊎_elim (λ l. omega arith) (λ l. omega arith) other),
        leaves k (omega (arith, size)),
      )
]

-- what is put at the place whose turn it is: its next corner, later than its turn, and at most one past the horizon
pub put_turn : (l : Load) (nexts : List ℕ) (p at x : ℕ) (d : Row) → length nexts ≡ length l.above → at ≤ horizon
    → (nat_lt p (length nexts) && slice_index_or nexts p 0 == at) ≡ true
    → x ≡ next_after l.bound at (get_or l.above p d)
    → (p < length nexts) × (slice_index_or (slice_set nexts p x) p 0 ≡ x) × (at < x) × (x ≤ horizon + 1)
put_turn l nexts p at x d size near here is =
    let turn = turn_at nexts p at here in
    let next = next_turn l at p x d near (omega (arith, size, turn.0)) is in
    (turn.0, get_or-set_at nexts p p x 0 refl turn.0, next.0, next.1.high)
