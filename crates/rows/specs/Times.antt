-- Times and frames.
use Rattle.std.specs.Prelude.{ℕ, ◌+◌, ◌-◌, ◌/◌, Bool, ◌&&◌, nat_le}

-- the last instant that anything is asked about; no period and no frame is longer
abbrev pub horizon : ℕ
horizon = 16777216

-- a table has at most this many rows
abbrev pub most_rows : ℕ
most_rows = 32

-- a frame: a common multiple of the periods of a table. Amounts of demand are counted in parts,
-- frame parts to a unit of work, so that every amount is a whole number
abbrev pub is_frame : ℕ → Bool
is_frame h = nat_le 1 h && nat_le h horizon

-- a / b rounded up
abbrev pub ceiling : ℕ → ℕ → ℕ
ceiling a b = (a + (b - 1)) / b
