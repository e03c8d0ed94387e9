-- What a reader may hold.
use Rattle.std.specs.Prelude.{◌≡◌, ℕ, List, Option, Some, None}

-- bytes that a reader may hold: all that it is known to hold; any, where nothing is known of it
abbrev pub MayHold : Option (List ℕ) → List ℕ → Type 0
MayHold None bytes = Unit {0}
MayHold (Some known) bytes = bytes ≡ known
