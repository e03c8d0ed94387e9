-- Round numbers for the marks of an axis.
use Rattle.std.specs.Prelude.{◌≡◌, ℕ, ◌*◌, ◌^◌, ◌⊎◌}

-- a step is 1, 2 or 5 times a power of ten
abbrev pub IsRound : ℕ → Type 0
IsRound step = (n : ℕ) × ((step ≡ 10 ^ n) ⊎ (step ≡ 2 * 10 ^ n) ⊎ (step ≡ 5 * 10 ^ n))
