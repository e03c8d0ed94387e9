-- In what two leaves differ.
use Rattle.std.specs.Prelude.{◌≡◌, ◌≢◌, ℕ, ◌+◌, List, ◌∷◌, ◌++◌, length, map}
use Rattle.rows.specs.declared.tasks.Numbers.{Numbers}
use Rattle.rows.specs.Judging.{plain}
use Rattle.leaves.specs.Contents.{Contents}
use Rattle.views.specs.declared.differences.Difference.{Difference}
use Rattle.views.specs.declared.differences.Difference.TheVariants.{Frames, Counts, Rows}

-- both tables begin with the same rows; then, at this rank, come these two, which are not the same
pub record IsFirstParted (rank : ℕ) (r s : Numbers) (c d : Contents) : Type 0 where
  pub before : List Numbers
  pub after_one : List Numbers
  pub after_other : List Numbers
  pub ranked : rank ≡ length before + 1
  pub one : map plain c.rows ≡ before ++ r ∷ after_one
  pub other : map plain d.rows ≡ before ++ s ∷ after_other
  pub parted : r ≢ s

-- the first difference between the tables of two leaves: between the frames; else between how many rows there are; else
-- between the rows of the first rank at which they are not the same
abbrev pub Differ : Difference → Contents → Contents → Type 0
Differ (Frames m n) c d = (c.heading.frame.ticks ≡ m) × (d.heading.frame.ticks ≡ n) × (m ≢ n)
Differ (Counts m n) c d =
    (c.heading.frame ≡ d.heading.frame) × (length c.rows ≡ m) × (length d.rows ≡ n) × (m ≢ n)
Differ (Rows rank r s) c d =
    (c.heading.frame ≡ d.heading.frame) × (length c.rows ≡ length d.rows) × IsFirstParted rank r s c d
