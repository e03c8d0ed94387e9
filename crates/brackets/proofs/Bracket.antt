-- A finding by a bound lies between the exact findings at full speed and at a lower one.
use Rattle.std.proofs.Common.{◌≡◌, ℕ, ◌+◌, ◌*◌, ◌≤◌, true, List, [], ◌∷◌, ◌++◌, sum_by, sym, ◌∙◌, arith}
use Rattle.std.specs.List.{All}
use Rattle.std.proofs.lemmas.Nat.{mul-le}
use Rattle.std.proofs.lemmas.List.Elements.{All-head, All-tail, All-weaker}
use Rattle.std.proofs.lemmas.List.Sums.{sum_by-append, sum_by-cons}
use Rattle.std.proofs.lemmas.Bool.{le-leb, leb-true}
use Rattle.rows.specs.declared.tasks.Row.{Row}
use Rattle.rows.specs.Times.{horizon}
use Rattle.rows.specs.Frames.{frame_of}
use Rattle.rows.specs.Counting.{is_on_frame, steps, window}
use Rattle.bounds.specs.Laws.{Laws}
use Rattle.bounds.specs.Meaning.{Meaning, is_asked}
use Rattle.bounds.specs.Supplied.{exact_steps}
use Rattle.findings.specs.Demand.{load, demand, is_rest}
use Rattle.findings.specs.Exact.{exact_demand, is_exact_rest, exact_rest}
use Rattle.findings.specs.Findings.{first_rest}
use Rattle.findings.proofs.Amounts.{asked_on_frame}
use Rattle.findings.proofs.FixedPoint.{sum_scaled, leb_scaled, rests_exactly}
use Rattle.findings.specs.Countable.{StandOn}
use Rattle.brackets.specs.Speeds.{rest_at_speed}
use Rattle.brackets.specs.Bracketing.{is_slow_rest, Brackets, FewerIsNoLater}
use Rattle.brackets.proofs.Earlier.{no_later, none_later}

-- a sum of smaller amounts is smaller
sums_le : {X : Type 0} (f g : X → ℕ) (xs : List X) → All (λ x. f x ≤ g x) xs → sum_by f xs ≤ sum_by g xs
sums_le f g [] _ = omega arith
sums_le f g (x ∷ xs) all =
    rw (sum_by-cons f x xs, sum_by-cons g x xs)
    (omega (arith, All-head (λ y. f y ≤ g y) x xs all, sums_le f g xs (All-tail (λ y. f y ≤ g y) x xs all)))

-- what rests by larger amounts rests by smaller ones
pub rests_by_less : (m m' : Meaning) (h own : ℕ) (above : List Row) (t : ℕ)
    → All (λ s. m.amount h s t ≤ m'.amount h s t) above
    → is_rest (load m' h own above) t ≡ true → is_rest (load m h own above) t ≡ true
rests_by_less m m' h own above t less rest =
    let sums = sums_le (λ s. m.amount h s t) (λ s. m'.amount h s t) above less in
    le-leb (demand (load m h own above) t) (h * t)
    (omega (arith, leb-true (demand (load m' h own above) t) (h * t) rest))

-- the window of a row is not past the horizon
pub window_near : (r : Row) (t : ℕ) → t ≤ window r → t ≤ horizon
window_near r t within = omega (arith, r.timely, r.near)

-- what holds of every row that a bound is asked about holds of the rows above
pub all_asked : (h : ℕ) (above : List Row) (t : ℕ) → StandOn h above → t ≤ horizon → (P : Row → Type 0)
    → ((s : Row) → is_asked h s t ≡ true → P s) → All P above
all_asked h above t stands near P holds =
    All-weaker (λ s. is_on_frame h s ≡ true) P
    (λ s on. holds s (asked_on_frame h s t stands.frame on near)) above stands.on

module _ {m : Meaning} (laws : Laws m) (h : ℕ) (r : Row) (above : List Row) (stands : StandOn h above) (t : ℕ)
    (near : t ≤ horizon) where
  -- a rest by the bound is a rest in exact steps
  exact_from_bound : is_rest (load m h r.work above) t ≡ true → is_exact_rest r above t ≡ true
  exact_from_bound rest =
      let covers = all_asked h above t stands near (λ s. h * steps s t ≤ m.amount h s t) (λ s. laws.covers h s t) in
      sym (rests_exactly (frame_of h) r above stands.frame t) ∙ rests_by_less exact_steps m h r.work above t covers rest

  -- the demand by the bound is at most (k + 1) / k times the exact demand
  demand_close : m.accuracy * demand (load m h r.work above) t ≤ h * ((m.accuracy + 1) * exact_demand r above t)
  demand_close =
      let k = m.accuracy in
      let close = all_asked h above t stands near (λ s. k * m.amount h s t ≤ (k + 1) * h * steps s t)
      (λ s ask. omega (arith, laws.close h s t ask)) in
      let sums = sums_le (λ s. k * m.amount h s t) (λ s. (k + 1) * h * steps s t) above close in
      omega (arith, sum_scaled k (λ s. m.amount h s t) above, sum_scaled ((k + 1) * h) (λ s. steps s t) above)

  -- a rest in exact steps at speed k / (k + 1) is a rest by the bound
  bound_from_slow : is_slow_rest m.accuracy r above t ≡ true → is_rest (load m h r.work above) t ≡ true
  bound_from_slow rest =
      let k = m.accuracy in
      let served = mul-le h ((k + 1) * exact_demand r above t) h (k * t) (omega arith)
      (leb-true ((k + 1) * exact_demand r above t) (k * t) rest) in
      sym (leb_scaled k (demand (load m h r.work above) t) (h * t) laws.some_accuracy)
      ∙ le-leb (k * demand (load m h r.work above) t) (k * (h * t)) (omega (arith, demand_close))

-- every finding by a lawful bound is bracketed
pub brackets : {m : Meaning} → Laws m → Brackets m
unfolding first_rest exact_rest rest_at_speed
brackets {m} laws h r above stands =
    let rest = is_rest (load m h.ticks r.work above) in
    let slow = no_later rest (is_slow_rest m.accuracy r above) (window r)
    (λ t _ within. bound_from_slow laws h.ticks r above stands t (window_near r t within)) in
    record {
      exact = no_later (is_exact_rest r above) rest (window r)
          (λ t _ within. exact_from_bound laws h.ticks r above stands t (window_near r t within));
      slow = slow;
      misses = none_later _ _ slow;
    }

-- with a row above taken away, a row rests where it did
pub fewer_above : (m : Meaning) → FewerIsNoLater m
unfolding first_rest
fewer_above m h r x xs ys =
    no_later (is_rest (load m h.ticks r.work (xs ++ ys))) (is_rest (load m h.ticks r.work (xs ++ x ∷ ys))) (window r)
    (λ t _ _ rest.
    let f : Row → ℕ = λ s. m.amount h.ticks s t in
    let served = leb-true (demand (load m h.ticks r.work (xs ++ x ∷ ys)) t) (h.ticks * t) rest in
    le-leb (demand (load m h.ticks r.work (xs ++ ys)) t) (h.ticks * t)
    (omega (arith, sum_by-append f xs ys, sum_by-append f xs (x ∷ ys), sum_by-cons f x ys)))
