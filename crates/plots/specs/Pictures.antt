-- What a picture shows, in whole numbers.
use Rattle.std.specs.Prelude.{◌≡◌, ℕ, List, map}
use Rattle.std.specs.Option.{unwrap_or}
use Rattle.std.specs.Ordering.{nat_cmp}
use Rattle.std.specs.BTreeSet.{BTreeSet, IsOrdered}
use Rattle.rows.specs.Found.{tells}
use Rattle.bounds.specs.Instants.{count}
use Rattle.findings.specs.Demand.{Load, demand}
use Rattle.findings.specs.Findings.{is_tested, load_finding}
use Rattle.findings.specs.Lent.{demand_told}
use Rattle.plots.specs.Thinning.{IsThinned}
use Rattle.plots.specs.declared.pictures.BoundCurve.{BoundCurve}
use Rattle.plots.specs.declared.pictures.Curve.{Curve}
use Rattle.plots.specs.declared.pictures.Point.{Point}

-- what is drawn at t of a load whose row may rest up to last: the demand up to it, in parts, and whether it is a test
-- point
abbrev pub point_at : Load → ℕ → ℕ → Point
point_at l last t = record { at = t; demand = demand l t; tested = is_tested l last t }

-- the same at any instant: past the horizon no demand is told, and 0 is drawn
abbrev pub point_told : Load → ℕ → ℕ → Point
point_told l last t = record { at = t; demand = unwrap_or (demand_told l t) 0; tested = is_tested l last t }

-- points are those of a curve: what is drawn at each instant of the thinned window, in rising order
pub record IsCurve (l : Load) (last columns : ℕ) (rests : List ℕ) (points : List Point) : Type 0 where
  pub kept : BTreeSet ℕ
  pub thinned : IsThinned (is_tested l last) last columns rests kept
  pub rising : IsOrdered nat_cmp kept
  pub drawn : points ≡ map (point_at l last) kept.keys

-- a curve is that of a load: its points, and the finding
pub record IsCurveOf (l : Load) (last columns : ℕ) (rests : List ℕ) (c : Curve) : Type 0 where
  pub curve : IsCurve l last columns rests c.points.items
  pub found : tells c.finding ≡ load_finding l last

-- the same by a bound: all test points of the window are counted too
pub record IsBoundCurveOf (last columns : ℕ) (rests : List ℕ) (l : Load) (b : BoundCurve) : Type 0 where
  pub curve : IsCurveOf l last columns rests b.curve
  pub counted : b.tests ≡ count (is_tested l last) last
