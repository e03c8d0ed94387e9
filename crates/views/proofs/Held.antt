-- What was read as a leaf.
use Rattle.std.proofs.Common.{ℕ, List, Ok}
use Rattle.rows.specs.Answers.{Answer, gives, refuses}
use Rattle.leaves.specs.Contents.{Contents}
use Rattle.reading.specs.declared.held.Leaf.{Leaf}
use Rattle.reading.specs.Leaves.{Holds, Reads}
use Rattle.reading.specs.Whole.{Fits}

-- bytes that are read as a leaf are the encoding of what it holds
pub read_leaf : (bytes : List ℕ) (leaf : Leaf) → ((a : Answer Contents) × Fits bytes a × Reads (Ok leaf) a)
    → (c : Contents) × Fits bytes (gives c) × Holds leaf c
read_leaf bytes leaf (gives c, fits, holds) = (c, fits, holds)
read_leaf bytes leaf (refuses n at, fits, none) = absurd none
