-- What is read as leaves.
use Rattle.std.specs.Prelude.{◌≡◌, ℕ, Bool, true, false, List, [], Option, map, slice_index_or}
use Rattle.std.specs.Borrow.{Bor}
use Rattle.rows.specs.declared.refusals.Refusal.{Refusal}
use Rattle.rows.specs.Answers.{gives, refuses}
use Rattle.rows.specs.Judging.{plain}
use Rattle.leaves.specs.Contents.{Contents}
use Rattle.reading.specs.Whole.{Fits}
use Rattle.streams.specs.Held.{MayHold}

-- bytes are a leaf, or they are refused
abbrev pub IsLeaf : Bool → List ℕ → Type 0
IsLeaf true bytes = (c : Contents) × Fits bytes (gives c)
IsLeaf false bytes = (refusal : Refusal) × (at : ℕ) × Fits bytes (refuses refusal at)

-- all that a reader held is a leaf, or is none
pub record HeldLeaf (held : Option (List ℕ)) (is_leaf : Bool) : Type 0 where
  pub bytes : List ℕ
  pub all : MayHold held bytes
  pub leaf : IsLeaf is_leaf bytes

-- the name at a place among some
abbrev pub name_among : List (Bor (List ℕ)) → ℕ → List ℕ
name_among names i = slice_index_or (map (λ name. name.now) names) i []

-- contents have one table: one frame, and the same rows in the same order
pub record HaveOneTable (c d : Contents) : Type 0 where
  pub frame : c.heading.frame ≡ d.heading.frame
  pub rows : map plain c.rows ≡ map plain d.rows

-- what two readers held are leaves whose contents are related so
pub record HeldBoth (P : Contents → Contents → Type 0) (first second : Option (List ℕ)) : Type 0 where
  pub one : List ℕ
  pub other : List ℕ
  pub all_one : MayHold first one
  pub all_other : MayHold second other
  pub contents_one : Contents
  pub contents_other : Contents
  pub fits_one : Fits one (gives contents_one)
  pub fits_other : Fits other (gives contents_other)
  pub related : P contents_one contents_other
