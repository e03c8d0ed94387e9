-- Numbers of jobs rounded up on a grain that is coarser the more jobs there are.
use Rattle.std.specs.Prelude.{IsTrue, ◌≡◌, ℕ, zero, suc, ◌+◌, ◌*◌, ◌/◌, ◌^◌, ◌<◌, ◌≤◌}
use Rattle.std.specs.Prelude.{Bool, ◌||◌, ◌==◌, nat_le, if◌then◌else◌}
use Rattle.rows.specs.declared.tasks.Row.{Row}
use Rattle.rows.specs.Times.{ceiling}
use Rattle.bounds.specs.Instants.{count}

-- the most jobs of a row that can ask for work from the moment that it is ready to t
abbrev pub jobs_until : Row → ℕ → ℕ
jobs_until r t = ceiling (t + r.jitter) r.period

-- the greatest of the powers of two from 2^0 to 2^e that n jobs hold k times; 1 where they hold none
unfoldable pub greatest_power : ℕ → ℕ → ℕ → ℕ
greatest_power k n zero = 1
greatest_power k n (suc e) = if nat_le (k * 2 ^ suc e) n then 2 ^ suc e else greatest_power k n e

-- the grain of n jobs at accuracy k: the greatest power of two g with k × g ≤ n. None past 2^n is one
abbrev pub grain : ℕ → ℕ → ℕ
grain k n = greatest_power k n n

-- the same, said: g is a power of two, it fits, and no greater power of two does
pub record IsGrain (k n g : ℕ) : Type 0 where
  pub power : (e : ℕ) × (g ≡ 2 ^ e)
  pub fits : k * g ≤ n
  pub greatest : (e : ℕ) → k * 2 ^ e ≤ n → 2 ^ e ≤ g

-- how many jobs are counted for n jobs: n itself while n ≤ k, and else n rounded up to a multiple of its grain
abbrev pub rounded : ℕ → ℕ → ℕ
rounded k n = if nat_le n k then n else ceiling n (grain k n) * grain k n

-- n is a stair: it is at most k, or it rounds to itself
abbrev pub is_stair : ℕ → ℕ → Bool
is_stair k n = nat_le n k || rounded k n == n

-- what rounding does at accuracy k
pub record Rounds (k : ℕ) : Type 0 where
  -- every number of jobs from k on has the grain that is found
  pub grains : (n : ℕ) → k ≤ n → IsGrain k n (grain k n)
  -- no fewer jobs are counted than there are, and less than a grain more
  pub covers : (n : ℕ) → n ≤ rounded k n
  pub near : (n : ℕ) → k ≤ n → rounded k n < n + grain k n
  -- for more jobs no fewer are counted
  pub grows : (m n : ℕ) → m ≤ n → rounded k m ≤ rounded k n
  -- a stair is counted as it is, and what is counted is a stair
  pub stays : (n : ℕ) → IsTrue (is_stair k n) → rounded k n ≡ n
  pub lands : (n : ℕ) → IsTrue (is_stair k (rounded k n))
  -- up to k every number is a stair; from there on there are e × k + n / 2^e up to n, with 2^e its grain
  pub few : (n : ℕ) → n ≤ k → count (is_stair k) n ≡ n
  pub many : (n e : ℕ) → k ≤ n → IsGrain k n (2 ^ e) → count (is_stair k) n ≡ e * k + n / 2 ^ e

-- n is a stair, and the next one is g further: its grain, and 1 up to k
pub record Stands (k n g : ℕ) : Type 0 where
  pub stair : IsTrue (is_stair k n)
  pub few : n ≤ k → g ≡ 1
  pub many : k ≤ n → g ≡ grain k n
