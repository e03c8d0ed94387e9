-- The common frame of a table.
use Rattle.std.specs.Prelude.{IsTrue, ◌≡◌, ℕ, ◌*◌, ◌%◌, ◌≤◌, Bool, false, List, Option, ◌==◌}
use Rattle.std.specs.List.{list_all}
use Rattle.std.specs.Int.{IsGcd}
use Rattle.std.specs.Option.{option_map}
use Rattle.rows.specs.declared.frames.FrameNumbers.{FrameNumbers}
use Rattle.rows.specs.declared.tasks.Numbers.{Numbers}
use Rattle.rows.specs.Frames.{frame_of}
use Rattle.rows.specs.Times.{horizon, is_frame}
use Rattle.bounds.specs.Instants.{least}

-- m is a common multiple of the periods of a table: every period divides it
abbrev pub is_common : List Numbers → ℕ → Bool
is_common table m = list_all (λ n. m % n.period == 0) table

-- the least common multiple of the periods of a table that lies from 1 to the horizon, if there is one
unfoldable pub least_multiple : List Numbers → Option ℕ
least_multiple table = least (is_common table) horizon 1

-- the common frame of a table has that length
abbrev pub common_frame : List Numbers → Option FrameNumbers
common_frame table = option_map frame_of (least_multiple table)

-- h is the length of the common frame: a frame and a common multiple of the periods, which divides every other
pub record IsLeastMultiple (table : List Numbers) (h : ℕ) : Type 0 where
  pub frame : IsTrue (is_frame h)
  pub common : IsTrue (is_common table h)
  pub each : (m : ℕ) → IsTrue (is_common table m) → m % h ≡ 0

-- a frame is the common frame: its length is a common multiple of the periods, which divides every other
abbrev pub IsCommonFrame : List Numbers → FrameNumbers → Type 0
IsCommonFrame table h = IsLeastMultiple table h.ticks

-- a table has no common frame: no number from 1 to the horizon is a common multiple of the periods
abbrev pub HasNoFrame : List Numbers → Type 0
HasNoFrame table = (m : ℕ) → 1 ≤ m → m ≤ horizon → is_common table m ≡ false

-- l is a frame and a common multiple of two numbers, which divides every other
pub record IsJoined (a b l : ℕ) : Type 0 where
  pub frame : IsTrue (is_frame l)
  pub first : l % a ≡ 0
  pub second : l % b ≡ 0
  pub each : (m : ℕ) → m % a ≡ 0 → m % b ≡ 0 → m % l ≡ 0

-- no number from 1 to the horizon is a common multiple of two numbers
abbrev pub CannotBeJoined : ℕ → ℕ → Type 0
CannotBeJoined a b = (m : ℕ) → 1 ≤ m → m ≤ horizon → m % a ≡ 0 → m % b ≡ 0 → ⊥

-- g is the greatest common divisor of two numbers, also after both are multiplied: what divides a × k and b × k divides
-- g × k
pub record DividesBoth (a b g : ℕ) : Type 0 where
  pub greatest : IsGcd a b g
  pub multiplied : (p k : ℕ) → a * k % p ≡ 0 → b * k % p ≡ 0 → g * k % p ≡ 0
