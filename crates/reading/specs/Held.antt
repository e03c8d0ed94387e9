-- Contents held in three parts: a heading, the bytes of the rows, and those of the findings.
use Rattle.std.specs.Prelude.{◌≡◌, ℕ, List, map}
use Rattle.leaves.specs.declared.entries.Heading.{Heading}
use Rattle.leaves.specs.declared.entries.Entry.TheVariants.{Row as row, Finding as finding}
use Rattle.leaves.specs.Contents.{Contents, bytes_of, IsLawful}

-- the parts hold contents: they are the heading of these, the bytes of their rows, and those of their findings, and
-- the contents are lawful
pub record HoldContents (h : Heading) (row_bytes finding_bytes : List ℕ) (c : Contents) : Type 0 where
  pub head : h ≡ c.heading
  pub rows : row_bytes ≡ bytes_of (map row c.rows)
  pub findings : finding_bytes ≡ bytes_of (map finding c.findings)
  pub lawful : IsLawful c

-- the parts hold some contents
abbrev pub HoldSomeContents : Heading → List ℕ → List ℕ → Type 0
HoldSomeContents h row_bytes finding_bytes = ∥ ((c : Contents) × HoldContents h row_bytes finding_bytes c) ∥₁
