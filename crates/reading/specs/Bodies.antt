-- Entries of one size, one after the other.
use Rattle.std.specs.Prelude.{◌≡◌, ℕ, ◌+◌, List, length, drop}
use Rattle.std.specs.List.{All}
use Rattle.leaves.specs.declared.entries.Entry.{Entry}
use Rattle.leaves.specs.Entries.{entry_bytes}

-- the body of an entry: what follows its letter
abbrev pub body_of : Entry → List ℕ
body_of e = drop 1 (entry_bytes e)

-- every entry of a list has a body of so many bytes
abbrev pub AreOfSize : ℕ → List Entry → Type 0
AreOfSize size es = All (λ e. length (entry_bytes e) ≡ 1 + size) es
