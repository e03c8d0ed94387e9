-- How much can be demanded of a processor, and when one of some speed has served it.
use Rattle.std.proofs.Common.{◌≡◌, ℕ, ◌+◌, ◌*◌, ◌^◌, ◌<◌, ◌≤◌, false, List, length, get_or, Some, None, sym}
use Rattle.std.proofs.Common.{lt_of_mul-lt-mul_right, ⊎_elim, arith}
use Rattle.std.proofs.lemmas.Nat.{mul-le}
use Rattle.std.proofs.lemmas.List.Sums.{sum_by-le}
use Rattle.std.proofs.lemmas.Bool.{cases_lt, le-leb, lt-leb}
use Rattle.rows.specs.declared.tasks.Row.{Row}
use Rattle.rows.specs.Counting.{steps, window}
use Rattle.rows.specs.Times.{ceiling, horizon, most_rows}
use Rattle.rows.proofs.Ceiling.{ceiling_covers, ceiling_tight}
use Rattle.bounds.specs.Instants.{IsFirst}
use Rattle.bounds.specs.Lemmas.Asking.{most_steps}
use Rattle.bounds.specs.Lemmas.Instants.{least_some, least_none}
use Rattle.bounds.specs.Meaning.{finest}
use Rattle.findings.specs.Asking.{most_above}
use Rattle.findings.specs.Exact.{exact_demand}
use Rattle.findings.proofs.FixedPoint.{demand_grows}
use Rattle.brackets.specs.Speeds.{is_rest_at_speed, rest_at_speed}

-- no steps up to the horizon pass this
steps_small : (r : Row) (t : ℕ) → t ≤ horizon → steps r t ≤ most_steps
steps_small r t near =
    let jobs = ceiling (t + r.jitter) r.period in
    let tight = ceiling_tight (t + r.jitter) r.period (omega arith) in
    let work = mul-le r.work jobs r.period jobs (omega arith) (omega arith) in
    omega arith

-- nor does the demand of a row and of those above it pass as many times that as a table has rows
abbrev pub most_demand : ℕ
most_demand = most_rows * most_steps

-- the demand of a row and of those above it does not pass as many times that as a table has rows
pub demand_small : (r : Row) (above : List Row) (t : ℕ) → length above ≤ most_above → t ≤ horizon
    → exact_demand r above t ≤ most_demand
demand_small r above t few near =
    let sums = sum_by-le (λ s. steps s t) most_steps above (λ k d within. steps_small (get_or above k d) t near) in
    let rows = mul-le (length above) most_steps most_above most_steps few (omega arith) in
    omega arith

-- such a demand times what a speed has fits 64 bits
pub product_fits : (b n : ℕ) → b ≤ finest + 1 → n ≤ most_demand → b * n < 2 ^ 64
product_fits b n low small = let product = mul-le b n (finest + 1) most_demand low small in omega arith

-- the instant by which such a demand is served at the lower speed fits 32 bits
pub served_fits : (a b n : ℕ) → 1 ≤ a → b ≤ 2 * a → n ≤ most_demand → ceiling (b * n) a < 2 ^ 32
served_fits a b n some near small =
    let twice = mul-le b n (2 * a) n near (omega arith) in
    let tight = ceiling_tight (b * n) a some in
    let below = lt_of_mul-lt-mul_right a {m = ceiling (b * n) a} {n = 2 * n + 1} (omega arith) in
    omega arith

module _ (a b : ℕ) (r : Row) (above : List Row) where
  -- the instant by which the demand up to t is served at that speed
  abbrev pub served : ℕ → ℕ
  served t = ceiling (b * exact_demand r above t) a

  -- before t the row rests nowhere at that speed
  abbrev pub RestsNowhereBefore : ℕ → Type 0
  RestsNowhereBefore t = (i : ℕ) → 1 ≤ i → i < t → is_rest_at_speed a b r above i ≡ false

  -- where it rests nowhere before t, it rests nowhere before the demand up to t is served
  pub nowhere_before_served : (t : ℕ) → 1 ≤ a → RestsNowhereBefore t → RestsNowhereBefore (served t)
  nowhere_before_served t some none i low early =
      ⊎_elim (λ (before : i < t). none i low before)
      (λ (from : t ≤ i).
      let room = mul-le (i + 1) a (served t) a (omega arith) (omega arith) in
      let more = mul-le b (exact_demand r above t) b (exact_demand r above i) (omega arith)
      (demand_grows r above t i from) in
      lt-leb (b * exact_demand r above i) (a * i) (omega (arith, ceiling_tight (b * exact_demand r above t) a some)))
      (cases_lt i t)

  -- where a row rests nowhere before t, and its demand up to t is served by t, the first rest is t
  pub rests_first : (t : ℕ) → 1 ≤ a → 1 ≤ t → t ≤ window r → RestsNowhereBefore t → served t ≤ t
      → Some t ≡ rest_at_speed a b r above
  unfolding rest_at_speed
  rests_first t some late within none early =
      let room = mul-le (served t) a t a early (omega arith) in
      let first : IsFirst (is_rest_at_speed a b r above) 0 (window r) t =
      record {
        after = omega arith;
        within = within;
        holds = le-leb (b * exact_demand r above t) (a * t)
            (omega (arith, ceiling_covers (b * exact_demand r above t) a some));
        none = λ i low high. none i (omega arith) high;
      } in
      sym (least_some (is_rest_at_speed a b r above) (window r) 0 (window r) t first (omega arith))

  -- where it rests nowhere up to the window, there is none
  pub rests_never : (t : ℕ) → window r < t → RestsNowhereBefore t → None ≡ rest_at_speed a b r above
  unfolding rest_at_speed
  rests_never t over none =
      sym (least_none (is_rest_at_speed a b r above) (window r) 0 (λ i low high. none i (omega arith) (omega arith)))

-- what a climb rests on
pub ruleset climbs = (nowhere_before_served, rests_first, rests_never)
