use Rattle.std.proofs.Common.{◌<◌, codes, length, rules, arith}
use Rattle.std.proofs.Output.{has_written_append, has_written_of_eq}
use Rattle.bounds.specs.declared.families.Family.TheVariants.{ExactSteps}
use Rattle.bounds.specs.declared.families.TheConstants.Family.{ALL}
use Rattle.scripts.specs.declared.forms.LineForm.TheVariants.{Bound}
use Rattle.scripts.specs.Forms.{form_text}
use Rattle.scripts.proofs.Joined.{joined_first, joined_more}
use Rattle.scripts.proofs.expecting.AnyBoundDisplay.fmt.Goals.{then-place-gt0+in_ok-write_str, else-place-gt0}
use Rattle.scripts.proofs.expecting.AnyBoundDisplay.fmt.Goals as goal

pub loop-place-preserved : goal.loop-place-preserved
loop-place-preserved g c = record {
  all = c.loop-place.invariant.all;
  wrote = λ p.
      let at = c.loop-place.place in
      let wrote = c.loop-place.invariant.wrote p in
      let inside : at < length ALL = omega arith in
      let form = c.in_ok-write.ensures.writes in
      elim c.if-place-gt0.branch [
        | then-place-gt0+in_ok-write_str w ↦
            (let or = has_written_append _ _ _ _ (codes " or ") w.write_str.new.self wrote (search rules) in
            has_written_of_eq _ _ _ _ _
            (joined_more (λ f. form_text (Bound f)) (codes " or ") ALL at ExactSteps w.if-place-gt0.true inside)
            (has_written_append _ _ _ _ _ _ or (search rules)))
        | else-place-gt0 w ↦
            has_written_of_eq _ _ _ _ _
            (joined_first (λ f. form_text (Bound f)) (codes " or ") ALL at ExactSteps w.if-place-gt0.false inside)
            (has_written_append _ _ _ _ _ _ wrote (search rules))
      ];
}
