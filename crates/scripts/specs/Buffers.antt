-- What is kept of a text.
use Rattle.std.specs.Prelude.{◌≡◌, ℕ, ◌≤◌, List, length}

-- how many bytes of a text are kept: those that may stand in a call, one more, and the one that may be dropped
abbrev pub room : ℕ
room = 130

-- some bytes are counted of as many as there is room for
pub record KeepsWithin (count : ℕ) (bytes : List ℕ) : Type 0 where
  pub places : length bytes ≡ room
  pub within : count ≤ room
