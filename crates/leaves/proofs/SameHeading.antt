-- A heading is known by its numbers.
use Rattle.std.proofs.Common.{◌≡◌, ◌≤◌, leb, ap}
use mathlib.Core.Bool.{Bool-set}
use mathlib.Core.HLevel.{is_prop→PathP}
use Rattle.std.proofs.lemmas.Bool.{and_parts, leb-true}
use Rattle.rows.specs.declared.frames.FrameNumbers.{FrameNumbers}
use Rattle.rows.specs.Frames.{IsFrame}
use Rattle.rows.specs.Times.{horizon}
use Rattle.bounds.proofs.SameBound.{same_bound}
use Rattle.leaves.specs.declared.entries.Heading.{Heading}
use Rattle.leaves.specs.Headings.{heading_plain}

-- the frame of a heading ends at the horizon
pub frame_near : (h : Heading) → h.frame.ticks ≤ horizon
frame_near h =
    leb-true h.frame.ticks horizon (and_parts (leb 1 h.frame.ticks) (leb h.frame.ticks horizon) h.framed.ticks).1

-- there is one proof that numbers are a frame
frame_once : (n : FrameNumbers) (a b : IsFrame n) → a ≡ b
frame_once n a b = λ i. record { ticks = Bool-set _ _ a.ticks b.ticks i }

-- headings with the same numbers are the same heading
pub same_heading : (g h : Heading) → heading_plain g ≡ heading_plain h → g ≡ h
same_heading g h same =
    let bound = same_bound g.bound h.bound (ap (λ n. n.bound) same) (ap (λ n. n.accuracy) same) in
    λ i. record {
      frame = (same i).frame;
      bound = bound i;
      framed = is_prop→PathP (λ j. IsFrame (same j).frame) (λ j. frame_once (same j).frame) g.framed h.framed i;
    }
