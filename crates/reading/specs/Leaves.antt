-- What a leaf that was read holds.
use Rattle.std.specs.Prelude.{◌≡◌, ℕ, List, ◌++◌, Ok, Err, Result}
use Rattle.rows.specs.declared.refusals.Fault.{Fault}
use Rattle.rows.specs.Answers.{Answer, gives, refuses}
use Rattle.leaves.specs.declared.entries.Heading.{Heading}
use Rattle.leaves.specs.declared.entries.Entry.TheVariants.{Heading as heading}
use Rattle.leaves.specs.Entries.{entry_bytes}
use Rattle.leaves.specs.Contents.{Contents}
use Rattle.reading.specs.declared.held.Leaf.{Leaf}
use Rattle.reading.specs.Held.{HoldContents, HoldSomeContents}

-- the heading of a leaf that was read
abbrev pub heading_of : Leaf → Heading
heading_of leaf = leaf.heading

-- the bytes of its rows
abbrev pub row_bytes : Leaf → List ℕ
row_bytes leaf = leaf.rows.now

-- the bytes of its findings
abbrev pub finding_bytes : Leaf → List ℕ
finding_bytes leaf = leaf.findings.now

-- a leaf holds contents: they are lawful, and it has their heading, the bytes of their rows, and those of their
-- findings
abbrev pub Holds : Leaf → Contents → Type 0
Holds leaf c = HoldContents (heading_of leaf) (row_bytes leaf) (finding_bytes leaf) c

-- a leaf holds some contents: so what is said of all that it holds is said of something
abbrev pub HoldsSome : Leaf → Type 0
HoldsSome leaf = HoldSomeContents (heading_of leaf) (row_bytes leaf) (finding_bytes leaf)

-- the bytes of its rows and those of its findings stand in the bytes that the leaf was read from, one after the other
abbrev pub ArePartsOf : List ℕ → Leaf → Type 0
ArePartsOf bytes leaf =
    (end : List ℕ)
    × (bytes ≡ entry_bytes (heading (heading_of leaf)) ++ (row_bytes leaf ++ (finding_bytes leaf ++ end)))

-- what reading answers is the answer: a leaf that holds the contents, or the refusal and its place
abbrev pub Reads : Result Leaf Fault → Answer Contents → Type 0
Reads (Ok leaf) (gives c) = Holds leaf c
Reads (Ok leaf) (refuses n at) = ⊥
Reads (Err e) (gives c) = ⊥
Reads (Err e) (refuses n at) = (e.refusal ≡ n) × (e.at ≡ at)
