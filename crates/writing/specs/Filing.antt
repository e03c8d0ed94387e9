-- What filing an entry does to a buffer, and what filing entries in turn comes to.
use Rattle.std.specs.Prelude.{◌≡◌, ℕ, ◌≤◌, List, [], ◌∷◌, ◌++◌, length, take}
use Rattle.rows.specs.Lists.{written}
use Rattle.leaves.specs.declared.entries.Heading.{Heading}
use Rattle.leaves.specs.declared.entries.Entry.{Entry}
use Rattle.leaves.specs.Entries.{entry_bytes}
use Rattle.leaves.specs.Contents.{Contents, entries, encoding, IsLawful}
use Rattle.reading.specs.declared.phases.Phase.{Phase}
use Rattle.reading.specs.declared.phases.Phase.TheVariants.{Opening, Closed}
use Rattle.reading.specs.Grammar.{Step}
use Rattle.reading.specs.Phases.{place_of}
use Rattle.reading.specs.Stepping.{reading, TakesAll}

-- an entry is filed: it leads from one phase to the other, and of the buffer its bytes are written at its place, and
-- no other byte
pub record Files (p : Phase) (old : List ℕ) (e : Entry) (q : Phase) (new : List ℕ) : Type 0 where
  pub step : Step p e q
  pub room : place_of q ≤ length old
  pub bytes : new ≡ written old (place_of p) (entry_bytes e)

-- entries are filed on one buffer, one after the other
pub data FilesAll : Phase → List ℕ → List Entry → Phase → List ℕ → Type 0 where
  none : {p : Phase} {bytes : List ℕ} → FilesAll p bytes [] p bytes
  files : {p here q : Phase} {old between new : List ℕ} {e : Entry} {es : List Entry}
      → Files p old e here between → FilesAll here between es q new → FilesAll p old (e ∷ es) q new

-- a reader of the first bytes of a buffer, up to the place of a phase, takes these entries, in their order, and then
-- has nothing left and stands in the phase
abbrev pub IsReadTo : List ℕ → List Entry → Phase → Type 0
IsReadTo buffer es p = TakesAll (reading Opening (take (place_of p) buffer)) es (reading p [])

-- a reader that has come as far as the writer comes as far as it again, and takes one entry more
abbrev pub ReadsOn : Phase → List ℕ → Entry → Phase → List ℕ → Type 0
ReadsOn p old e q new = (es : List Entry) → IsReadTo old es p → IsReadTo new (es ++ e ∷ []) q

-- after entries filed in turn from the opening on, a reader has taken exactly these entries
abbrev pub IsFollowed : Type 0
IsFollowed =
    (old new : List ℕ) (es : List Entry) (q : Phase) → FilesAll Opening old es q new → IsReadTo new es q

-- entries are those of contents that a leaf can hold, for which a buffer has room, and another buffer is the same
-- with their bytes written over it from the first place on
pub record FilesWhole (old : List ℕ) (es : List Entry) (new : List ℕ) : Type 0 where
  pub contents : Contents
  pub lawful : IsLawful contents
  pub same : es ≡ entries contents
  pub room : length (encoding contents) ≤ length old
  pub bytes : new ≡ written old 0 (encoding contents)

-- filing the entries of a leaf in turn on one buffer is filing it whole
pub record IsWholeInTurn : Type 0 where
  -- what is filed in turn from the opening to the end is a whole leaf, and leaves the bytes of one
  pub whole : (old new : List ℕ) (es : List Entry) (h : Heading) (n : ℕ) → FilesAll Opening old es (Closed h n) new
      → FilesWhole old es new
  -- every leaf for which there is room can be filed in turn, and leaves the bytes of a whole one
  pub turn : (old : List ℕ) (c : Contents) → IsLawful c → length (encoding c) ≤ length old
      → FilesAll Opening old (entries c) (Closed c.heading (length c.rows)) (written old 0 (encoding c))
