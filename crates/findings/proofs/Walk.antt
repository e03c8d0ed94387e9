-- From test point to test point: what is known on the way, and what is found at the end.
use Rattle.std.proofs.Common.{◌≡◌, ℕ, zero, suc, ◌+◌, ◌-◌, ◌<◌, ◌≤◌, true, false, ◌&&◌, eqb, ltb, Some, None, Option}
use Rattle.std.proofs.Common.{unwrap_or, sym, refl, ap, subst, ⊎_elim, arith, MatchOption}
use Rattle.std.proofs.lemmas.Option.{none-some, MatchOption-at_some}
use Rattle.std.proofs.lemmas.Bool.{and_from, and_left, and_parts, and_right, both_ways, cases_lt, eq-eqb, lt-ltb}
use Rattle.std.proofs.lemmas.Bool.{or_left, or_parts, and_cases}
use Rattle.rows.specs.Times.{horizon}
use Rattle.bounds.specs.Instants.{least, count, IsFirst, OnceThenOn}
use Rattle.bounds.specs.Laws.{Laws}
use Rattle.bounds.specs.Lemmas.Instants.{least_after, least_some, least_none, least_up_to}
use Rattle.findings.specs.Demand.{Load, is_rest}
use Rattle.findings.specs.Points.{is_bend}
use Rattle.rows.specs.Found.{Found}
use Rattle.findings.specs.Findings.{first_rest, is_tested, is_resting_point, stop, points, load_finding, Says}
use Rattle.findings.specs.Countable.{StandOn}
use Rattle.findings.proofs.Turning.{not_before}
use Rattle.findings.proofs.Amounts.{no_rest_at_start, rests_on}

-- what has been seen at an instant on the way: it and all before it are no rests
pub record Walked (l : Load) (last late : ℕ) : Type 0 where
  pub within : late ≤ last
  pub none : (i : ℕ) → i ≤ late → is_rest l i ≡ false

-- an instant before last that is no test point is no corner
pub no_bend : (l : Load) (last t : ℕ) → t < last → is_tested l last t ≡ false → is_bend l.bound l.above t ≡ false
no_bend l last t before none =
    let inner = (or_parts (eqb t last) (ltb t last && is_bend l.bound l.above t) none).1 in
    ⊎_elim (λ (z : ltb t last ≡ false). absurd (both_ways (ltb t last) z (lt-ltb t last before))) (λ e. e)
    (and_cases (ltb t last) (is_bend l.bound l.above t) inner)

-- the walk begins at 0
pub start : (l : Load) (last : ℕ) → Laws l.bound → StandOn l.frame l.above → 1 ≤ l.own → Walked l last 0
start l last laws stands busy = record {
  within = omega arith;
  none = λ i low. let e : 0 ≡ i = omega arith in
      subst (λ j. is_rest l j ≡ false) e (no_rest_at_start l laws stands busy);
}

-- what holds of the instants up to b and of those after it holds of all
up_to_and_after : {P : Type 0} (b i : ℕ) → (i ≤ b → P) → (b < i → P) → P
up_to_and_after b i old new = ⊎_elim new old (cases_lt b i)

-- where neither t nor any instant before it is a rest, the walk has come to t
pub reached : (l : Load) (last t : ℕ) → t ≤ last → ((i : ℕ) → i < t → is_rest l i ≡ false) → is_rest l t ≡ false
    → Walked l last t
reached l last t within none here = record {
  within = within;
  none = λ i low.
      ⊎_elim (λ before. none i before)
      (λ from. let e : t ≡ i = omega arith in subst (λ j. is_rest l j ≡ false) e here) (cases_lt i t);
}

module _ (l : Load) (last : ℕ) (laws : Laws l.bound) (stands : StandOn l.frame l.above) (near : last ≤ horizon) where
  -- between the instant reached and the next test point a row that rests goes on resting
  pub turns_once : (late point : ℕ) → Walked l last late → IsFirst (is_tested l last) late last point
      → OnceThenOn (is_rest l) late point
  turns_once late point walked next =
      rests_on l laws stands late point (omega (arith, next.within)) (walked.none late (omega arith))
      (λ t after early. no_bend l last t (omega (arith, next.within)) (next.none t after early))

  -- a test point at which the row does not rest is walked past
  pub pass : (late point : ℕ) → Walked l last late → IsFirst (is_tested l last) late last point
      → is_rest l point ≡ false → Walked l last point
  pass late point walked next unserved =
      let once = turns_once late point walked next in
      record {
        within = next.within;
        none = λ i low.
            up_to_and_after late i (walked.none i)
            (λ new. not_before (is_rest l) late point point once (omega arith) unserved i new low);
      }

-- a test point is a rest, and the first rest after the instant reached is found
module _ (l : Load) (last late point rest : ℕ) (walked : Walked l last late)
    (next : IsFirst (is_tested l last) late last point)
    (served : is_rest l point ≡ true) (first : IsFirst (is_rest l) late point rest) where
  -- the first rest after the instant reached is the first of all
  first_of_all : IsFirst (is_rest l) 0 last rest
  first_of_all = record {
    after = omega (arith, first.after);
    within = omega (arith, first.within, next.within);
    holds = first.holds;
    none = λ i low early. up_to_and_after late i (walked.none i) (λ new. first.none i new early);
  }

  -- testing stops at the test point
  stops_here : IsFirst (is_resting_point l last) 0 last point
  stops_here = record {
    after = omega (arith, next.after);
    within = next.within;
    holds = and_from (is_tested l last point) (is_rest l point) next.holds served;
    none = λ i low early.
        up_to_and_after late i (λ old. and_right (is_tested l last i) (is_rest l i) (walked.none i old))
        (λ new. and_left (is_tested l last i) (is_rest l i) (next.none i new early));
  }

  -- the rest that is found is the first, and the test point the one at which testing stops
  pub meets : first_rest l last ≡ Some rest
  unfolding first_rest
  meets = least_some (is_rest l) last 0 last rest first_of_all (omega (arith, first_of_all.within))

  pub stops : stop l last ≡ point
  unfolding stop
  stops = ap (λ o. unwrap_or o last)
      (least_some (is_resting_point l last) last 0 last point stops_here (omega (arith, next.within)))

module _ (l : Load) (last : ℕ) where
  -- an instant that is a rest, and before which there is none, is the first rest
  pub meets_first : (t : ℕ) → 1 ≤ t → t ≤ last → ((i : ℕ) → i < t → is_rest l i ≡ false) → is_rest l t ≡ true
      → first_rest l last ≡ Some t
  unfolding first_rest
  meets_first t some within none here =
      let first : IsFirst (is_rest l) 0 last t = record {
        after = some;
        within = within;
        holds = here;
        none = λ i low early. none i early;
      } in
      least_some (is_rest l) last 0 last t first (omega arith)

  -- where no instant up to the last is a rest, there is no first one
  pub misses : ((i : ℕ) → 1 ≤ i → i ≤ last → is_rest l i ≡ false) → first_rest l last ≡ None
  unfolding first_rest
  misses none = least_none (is_rest l) last 0 (λ i low high. none i low (omega arith))

  -- a row with no first rest is tested up to the last instant
  pub stops_last : first_rest l last ≡ None → stop l last ≡ last
  unfolding first_rest stop
  stops_last none = at (least (is_rest l) last 1) none (least_up_to (is_rest l) last)
    where
      at : (o : Option ℕ) → o ≡ None
          → MatchOption o ((i : ℕ) → 1 ≤ i → i ≤ last → is_rest l i ≡ false) (IsFirst (is_rest l) 0 last)
          → unwrap_or (least (is_resting_point l last) last 1) last ≡ last
      at None _ none =
          ap (λ o. unwrap_or o last)
          (least_none (is_resting_point l last) last 0
          (λ i low high. and_right (is_tested l last i) (is_rest l i) (none i low (omega arith))))
      at (Some t) e _ = absurd (none-some t (sym e))

  -- what a first rest is
  pub first_is : (t : ℕ) → first_rest l last ≡ Some t → IsFirst (is_rest l) 0 last t
  unfolding first_rest
  first_is t e = MatchOption-at_some _ _ t e (least_up_to (is_rest l) last)

-- what a finding says holds of the finding that is defined
module _ (l : Load) (last : ℕ) (laws : Laws l.bound) (stands : StandOn l.frame l.above) (busy : 1 ≤ l.own)
    (near : last ≤ horizon) where
  -- after every instant before the last there is a next test point
  next_test : (n : ℕ) → n < last → (q : ℕ) × IsFirst (is_tested l last) n last q
  next_test n before = at (least (is_tested l last) (last - n) (n + 1)) (least_after (is_tested l last) (last - n) n)
    where
      at : (o : Option ℕ)
          → MatchOption o ((i : ℕ) → n < i → i ≤ n + (last - n) → is_tested l last i ≡ false)
          (IsFirst (is_tested l last) n (n + (last - n))) → (q : ℕ) × IsFirst (is_tested l last) n last q
      at None none =
          absurd (both_ways (is_tested l last last) (none last before (omega arith))
          (or_left (eqb last last) _ (eq-eqb last last refl)))
      at (Some q) first = let e : n + (last - n) ≡ last = omega arith in
          (q, subst (λ e. IsFirst (is_tested l last) n e q) e first)

  -- where no test point is a rest, no instant is
  no_rest : ((i : ℕ) → 1 ≤ i → i ≤ last → is_resting_point l last i ≡ false) → (n : ℕ) → n ≤ last → (i : ℕ) → i ≤ n
      → is_rest l i ≡ false
  no_rest none zero within i low = (start l last laws stands busy).none i low
  no_rest none (suc n) within i low =
      let (q, next) = next_test n within in
      let late : is_rest l q ≡ false =
      ⊎_elim (λ (z : is_tested l last q ≡ false). absurd (both_ways (is_tested l last q) z next.holds)) (λ e. e)
      (and_cases (is_tested l last q) (is_rest l q) (none q (omega (arith, next.after)) next.within)) in
      let walked : Walked l last n = record { within = omega arith; none = no_rest none n (omega arith) } in
      (pass l last laws stands near n q walked next late).none i (omega (arith, next.after))

  -- before the first rest the walk has come to no rest
  to_first : (t : ℕ) → IsFirst (is_rest l) 0 last t → Walked l last (t - 1)
  to_first t first = record {
    within = omega (arith, first.within);
    none = λ i low.
        ⊎_elim (λ (some : 0 < i). first.none i some (omega (arith, first.after)))
        (λ none. (start l last laws stands busy).none i none) (cases_lt 0 i);
  }

  -- the first test point from the first rest on is a rest
  on_point : (t : ℕ) → IsFirst (is_rest l) 0 last t
      → (q : ℕ) × IsFirst (is_tested l last) (t - 1) last q × (is_rest l q ≡ true)
  on_point t first =
      let (q, next) = next_test (t - 1) (omega (arith, first.after, first.within)) in
      let once = turns_once l last laws stands near (t - 1) q (to_first t first) next in
      let on = once t q (omega (arith, first.after)) (omega (arith, first.after, next.after))
      (omega arith) first.holds in
      (q, next, on)

  -- the first rest lies between two points: no later than where testing stops, and after every test point before that
  lies_between : (s t : ℕ) → IsFirst (is_resting_point l last) 0 last s → IsFirst (is_rest l) 0 last t
      → (t ≤ s) × ((p : ℕ) → p < s → is_tested l last p ≡ true → p < t)
  lies_between s t stops first =
      let rests = (and_parts (is_tested l last s) (is_rest l s) stops.holds).1 in
      let (q, next, on) = on_point t first in
      let none : q < s → ⊥ = λ early.
      both_ways (is_resting_point l last q) (stops.none q (omega (arith, next.after)) early)
      (and_from (is_tested l last q) (is_rest l q) next.holds on) in (
        ⊎_elim (λ (early : s < t). absurd (both_ways (is_rest l s) (first.none s stops.after early) rests)) (λ e. e)
            (cases_lt s t),
        λ p early tested.
            ⊎_elim (λ e. e)
            (λ (late : t ≤ p).
            ⊎_elim (λ (before : p < q).
            absurd (both_ways (is_tested l last p) (next.none p (omega (arith, first.after)) before) tested))
            (λ (past : q ≤ p). absurd (none (omega arith))) (cases_lt p q))
            (cases_lt p t),
      )

  pub finding_says : Says l last (load_finding l last)
  unfolding first_rest stop points
  finding_says =
      at (least (is_resting_point l last) last 1) (least (is_rest l) last 1)
      (least_up_to (is_resting_point l last) last) (least_up_to (is_rest l) last)
    where
      at : (s t : Option ℕ)
          → MatchOption s ((i : ℕ) → 1 ≤ i → i ≤ last → is_resting_point l last i ≡ false)
          (IsFirst (is_resting_point l last) 0 last)
          → MatchOption t ((i : ℕ) → 1 ≤ i → i ≤ last → is_rest l i ≡ false) (IsFirst (is_rest l) 0 last)
          → Says l last (record { rest = t; points = count (is_tested l last) (unwrap_or s last) })
      at None None _ none = record { rest = none; points = refl; between = tt }
      at None (Some t) none first =
          absurd (both_ways (is_rest l t) (no_rest none last (omega arith) t first.within) first.holds)
      at (Some s) None first none =
          absurd (both_ways (is_rest l s) (none s first.after first.within)
          (and_parts (is_tested l last s) (is_rest l s) first.holds).1)
      at (Some s) (Some t) stops first = record {
        rest = first;
        points = (s, stops, refl);
        between = let (within, after) = lies_between s t stops first in (s, stops, within, after);
      }

  -- every finding that is the defined one says what that says
  pub found_says : (f : Found) → f ≡ load_finding l last → Says l last f
  found_says f is = subst (Says l last) (sym is) finding_says

  -- the first rest is followed by the test point at which testing stops, with no other between
  pub stops_after : (t : ℕ) → first_rest l last ≡ Some t → IsFirst (is_tested l last) (t - 1) last (stop l last)
  stops_after t e =
      let first = first_is l last t e in
      let (q, next, on) = on_point t first in
      let here : IsFirst (is_rest l) (t - 1) q t = record {
        after = omega (arith, first.after);
        within = omega (arith, first.after, next.after);
        holds = first.holds;
        none = λ i low early. absurd (omega (arith, first.after));
      } in
      subst (IsFirst (is_tested l last) (t - 1) last) (sym (stops l last (t - 1) q t (to_first t first) next on here))
      next
