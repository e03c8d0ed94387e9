-- What was written so far is the forms of the kinds of bounds so far.
use Rattle.std.proofs.Common.{◌≡◌, codes, take}
use Rattle.std.specs.Fmt.{HasWritten, IsPlainFormatter}
use Rattle.std.specs.List.{join_by}
use Rattle.bounds.specs.declared.families.TheConstants.Family.{ALL}
use Rattle.scripts.specs.declared.forms.LineForm.TheVariants.{Bound}
use Rattle.scripts.specs.Forms.{form_text}
use Rattle.scripts.proofs.expecting.AnyBoundDisplay.fmt.Given as goal

abbrev pub invariant-loop-place : goal.invariant-loop-place
invariant-loop-place g l = record {
  all : l.family-items ≡ ALL;
  wrote : IsPlainFormatter l.initial.f
      → HasWritten g.W.Write.write_str_gives l.initial.f
      (join_by (λ f. form_text (Bound f)) (codes " or ") (take l.place ALL)) l.f;
}
