-- What is known where a bound is asked.
use Rattle.std.specs.Prelude.{◌≡◌, ℕ, ◌+◌, ◌*◌, ◌/◌, ◌%◌, ◌≤◌, true, ◌&&◌, nat_le}
use Rattle.std.proofs.Common.{arith}
use Rattle.std.proofs.lemmas.Nat.{div-add-mod', mul-le}
use Rattle.std.proofs.lemmas.Bool.{and_from, and_parts, le-leb, leb-true, eqb-true}
use Rattle.rows.specs.declared.tasks.Row.{Row}
use Rattle.rows.specs.Times.{horizon, is_frame, ceiling}
use Rattle.rows.specs.Counting.{is_on_frame, steps}
use Rattle.rows.proofs.Ceiling.{ceiling_tight}
use Rattle.bounds.specs.Meaning.{is_asked}

-- what a bound that is asked knows of the frame h, the row r and the instant t
pub record IsAsked (h : ℕ) (r : Row) (t : ℕ) : Type 0 where
  pub frame : h ≤ horizon
  pub divides : h / r.period * r.period ≡ h
  pub near : t ≤ horizon

-- being asked says all of it
pub asked_tells : (h : ℕ) (r : Row) (t : ℕ) → is_asked h r t ≡ true → IsAsked h r t
asked_tells h r t ask =
    let parts = and_parts (is_frame h && is_on_frame h r) (nat_le t horizon) ask in
    let on = and_parts (is_frame h) (is_on_frame h r) parts.0 in
    record {
      frame = leb-true h horizon (and_parts (nat_le 1 h) (nat_le h horizon) on.0).1;
      divides = omega (arith, div-add-mod' h r.period, eqb-true (h % r.period) 0 on.1);
      near = leb-true t horizon parts.1;
    }

-- what is asked at one instant can be asked at any other up to the horizon
pub asked_then : (h : ℕ) (r : Row) (t u : ℕ) → is_asked h r t ≡ true → u ≤ horizon → is_asked h r u ≡ true
asked_then h r t u ask near =
    and_from (is_frame h && is_on_frame h r) (nat_le u horizon)
    (and_parts (is_frame h && is_on_frame h r) (nat_le t horizon) ask).0 (le-leb u horizon near)

-- no exact steps up to the horizon pass this: the periods of a row's jobs together are shorter than the instant, the
-- jitter and one period more
abbrev pub most_steps : ℕ
most_steps = 3 * horizon

-- how many parts the most steps are at the longest frame
abbrev pub most_parts : ℕ
most_parts = horizon * most_steps

-- no exact steps have more parts at a frame up to the horizon
pub steps_fit : (h : ℕ) (r : Row) (t : ℕ) → h ≤ horizon → t ≤ horizon → h * steps r t ≤ most_parts
steps_fit h r t frame near =
    let jobs = ceiling (t + r.jitter) r.period in
    let tight = ceiling_tight (t + r.jitter) r.period (omega arith) in
    let work = mul-le r.work jobs r.period jobs (omega arith) (omega arith) in
    mul-le h (steps r t) horizon most_steps frame (omega arith)
