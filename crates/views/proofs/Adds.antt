-- What is added to the records that are shown.
use Rattle.std.proofs.Common.{ℕ, true, List, Ok}
use Rattle.rows.specs.Answers.{Answer}
use Rattle.leaves.specs.Contents.{Contents}
use Rattle.reading.specs.declared.held.Leaf.{Leaf}
use Rattle.reading.specs.Leaves.{Holds, Reads}
use Rattle.reading.specs.Whole.{Fits}
use Rattle.views.specs.declared.showing.Show.{Show}
use Rattle.views.specs.Added.{Adds, GrowBy, layout_of}
use Rattle.views.specs.Ranked.{leaf_records}
use Rattle.views.specs.Texts.{IsLeafText}
use Rattle.views.proofs.Held.{read_leaf}

-- a leaf that was read adds the records of what it holds
pub leaf_adds : (name bytes : List ℕ) (old new : Show) (leaf : Leaf)
    → ((a : Answer Contents) × Fits bytes a × Reads (Ok leaf) a)
    → ((c : Contents) → Holds leaf c → GrowBy (layout_of old) (IsLeafText name c) (leaf_records name c) old new)
    → Adds true name bytes old new
leaf_adds name bytes old new leaf read grow =
    let (c, is, holds) = read_leaf bytes leaf read in (c, is, grow c holds)
