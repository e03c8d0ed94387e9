-- What it is for a law of a bound to fail, and where the first one does.
use Rattle.std.specs.Prelude.{◌≡◌, ◌⊎◌, ℕ, Bool, not, ◌+◌, ◌-◌, ◌*◌, ◌<◌, ◌≤◌, ◌&&◌, List, length, min, nat_le, nat_lt}
use Rattle.std.specs.Prelude.{slice_index_or, Some, None, Option, MatchOption, if◌then◌else◌}
use Rattle.rows.specs.declared.tasks.Row.{Row}
use Rattle.rows.specs.Times.{horizon}
use Rattle.bounds.specs.Answering.{amount_answered}
use Rattle.bounds.specs.Meaning.{Meaning}
use Rattle.bounds.specs.Supplied.{exact_steps}
use Rattle.trials.specs.declared.breaches.Breach.{Breach}
use Rattle.trials.specs.declared.breaches.Broken.{Broken}
use Rattle.trials.specs.declared.breaches.Broken.TheVariants.{Covers, Close, Bends}

-- at a frame and an instant the amount of a row, and its exact steps in parts
abbrev amount_at : Meaning → ℕ → Row → ℕ → ℕ
amount_at m h r t = amount_answered m h r t

abbrev exact_at : ℕ → Row → ℕ → ℕ
exact_at h r t = amount_answered exact_steps h r t

-- the amount is below the exact steps
abbrev is_below : Meaning → ℕ → Row → ℕ → Bool
is_below m h r t = nat_lt (amount_at m h r t) (exact_at h r t)

-- it is more than (k + 1) / k times as much, k the accuracy
abbrev is_far : Meaning → ℕ → Row → ℕ → Bool
is_far m h r t = nat_lt ((m.accuracy + 1) * exact_at h r t) (m.accuracy * amount_at m h r t)

-- it bends upward at an instant that is no corner
abbrev pub is_bent : Meaning → ℕ → Row → ℕ → Bool
is_bent m h r t =
    nat_le 1 t && nat_lt t horizon && not (m.is_corner r t)
    && nat_lt (2 * amount_at m h r t) (amount_at m h r (t - 1) + amount_at m h r (t + 1))

-- the law that fails there, the first of the three, with the numbers by which it does
abbrev pub broken_at : Meaning → ℕ → Row → ℕ → Option Broken
broken_at m h r t =
    if is_below m h r t then Some (Covers (amount_at m h r t) (exact_at h r t))
    else if is_far m h r t then Some (Close m.accuracy (amount_at m h r t) (exact_at h r t))
    else if is_bent m h r t
    then Some (Bends (amount_at m h r (t - 1)) (amount_at m h r t) (amount_at m h r (t + 1)))
    else None

-- the last instant that is tried: three periods past as many as the accuracy says, up to the horizon
abbrev pub last_tried : Meaning → Row → ℕ
last_tried m r = min ((m.accuracy + 3) * r.period) horizon

-- no law fails of a row on a frame, at an instant before another
abbrev pub HoldBefore : Meaning → ℕ → Row → ℕ → Type 0
HoldBefore m h r e = (t : ℕ) → t < e → broken_at m h r t ≡ None

-- no law fails of a row on a frame, at any instant that is tried
abbrev pub HoldOn : Meaning → ℕ → Row → Type 0
HoldOn m h r = HoldBefore m h r (last_tried m r + 1)

-- nor on the two frames that are tried: its period, and twice that
abbrev pub HoldOf : Meaning → Row → Type 0
HoldOf m r = HoldOn m r.period r × HoldOn m (2 * r.period) r

-- a breach of a row on a frame: the first instant at which a law fails
pub record IsBreachOn (m : Meaning) (h : ℕ) (r : Row) (b : Breach) : Type 0 where
  pub frame : b.frame ≡ h
  pub row : b.row ≡ r
  pub within : b.at ≤ last_tried m r
  pub broken : broken_at m h r b.at ≡ Some b.broken
  pub first : HoldBefore m h r b.at

-- a breach of a row, on the first frame on which there is one
abbrev pub IsBreachOf : Meaning → Row → Breach → Type 0
IsBreachOf m r b = IsBreachOn m r.period r b ⊎ (HoldOn m r.period r × IsBreachOn m (2 * r.period) r b)

-- no law fails of the rows before a place
abbrev pub HoldAbove : Meaning → List Row → ℕ → Type 0
HoldAbove m rows e = (k : ℕ) (d : Row) → k < e → HoldOf m (slice_index_or rows k d)

-- what is found of rows: the breach of the first row that has one, or that no law fails of any
abbrev pub IsFound : Meaning → List Row → Option Breach → Type 0
IsFound m rows o =
    MatchOption o (HoldAbove m rows (length rows))
    (λ b. (k : ℕ) × (k < length rows) × IsBreachOf m (slice_index_or rows k b.row) b × HoldAbove m rows k)
