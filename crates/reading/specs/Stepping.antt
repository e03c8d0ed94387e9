-- One step of a reader.
use Rattle.std.specs.Prelude.{IsTrue, ◌≡◌, ℕ, List, [], ◌∷◌, ◌++◌, Some, None, Option}
use Rattle.leaves.specs.declared.entries.Entry.{Entry}
use Rattle.leaves.specs.Entries.{entry_bytes}
use Rattle.reading.specs.declared.phases.Phase.{Phase}
use Rattle.reading.specs.Grammar.{Step}
use Rattle.reading.specs.Phases.{is_closed}

-- where a reader is: its phase, and the bytes that are left
pub record Reading : Type 0 where
  pub phase : Phase
  pub left : List ℕ

-- where a reader is, written out
abbrev pub reading : Phase → List ℕ → Reading
reading phase left = record { phase = phase; left = left }

-- an entry is taken: it leads from one phase to the other, and its bytes stood in front of those that are left
pub record TakesEntry (old : Reading) (e : Entry) (new : Reading) : Type 0 where
  pub step : Step old.phase e new.phase
  pub split : old.left ≡ entry_bytes e ++ new.left

-- an entry is taken, or there is none: then the leaf is closed, no byte is left, and the reader stays
abbrev pub Takes : Reading → Option Entry → Reading → Type 0
Takes old (Some e) new = TakesEntry old e new
Takes old None new = IsTrue (is_closed old.phase) × (old.left ≡ []) × (new ≡ old)

-- no other entry could have been taken, and it could have left the reader nowhere else
abbrev pub TakesOnce : Reading → Type 0
TakesOnce old =
    (a b : Option Entry) (new other : Reading) → Takes old a new → Takes old b other → (a ≡ b) × (new ≡ other)

-- entries are taken, one after the other
pub data TakesAll : Reading → List Entry → Reading → Type 0 where
  ends : {old : Reading} → TakesAll old [] old
  takes : {old here new : Reading} {e : Entry} {es : List Entry}
      → TakesEntry old e here → TakesAll here es new → TakesAll old (e ∷ es) new
