use Rattle.std.proofs.Common.{ℕ, List, [], Bor, Some, refl, rules, subst, slice_index_or}
use Rattle.std.specs.Prelude.{IfErr, IfOk}
use Rattle.std.proofs.lemmas.Result.{IfErr-weaker, IfOk-weaker}
use Rattle.streams.specs.Held.{MayHold}
use Rattle.views.proofs.Compared.{both_held, name_at, trouble_held}
use Rattle.views.specs.Compared.{AreCompared, IsComparisonOf}
use Rattle.views.specs.Leaves.{name_among}
use Rattle.views.specs.Troubles.{IsTroubleOf, of_leaves}
use Rattle.views.proofs.comparing.comparison.Goals as goal

-- the name that stands where there is none
abbrev no_name : Bor (List ℕ)
no_name = record { ref_ptr = (0, 0); now = [] }

pub returns-clause-text : goal.returns-clause-text
returns-clause-text g c =
    let h = g.A.Read.remaining c.args.first.now in
    let i = g.B.Read.remaining c.args.second.now in
    let one : MayHold h c.deref.result.now = search rules in
    let other : MayHold i c.deref-2.result.now = search rules in
    let r = c.compare_bytes.result in
    let a = (slice_index_or c.args.names 0 no_name).now in
    let b = (slice_index_or c.args.names 1 no_name).now in
    subst (λ n. IfOk r (λ text. IsComparisonOf n h (name_among c.args.names 1) i text.items))
    (name_at c.args.names 0 no_name refl)
    (subst (λ n. IfOk r (λ text. IsComparisonOf a h n i text.items)) (name_at c.args.names 1 no_name refl)
    (IfOk-weaker r (λ text. IsComparisonOf a (Some c.deref.result.now) b (Some c.deref-2.result.now) text.items)
    (λ text. IsComparisonOf a h b i text.items)
    (λ text. both_held (AreCompared a b text.items) h i c.deref.result.now c.deref-2.result.now one other)
    c.compare_bytes.ensures.text))

pub returns-clause-failed : goal.returns-clause-failed
returns-clause-failed g c =
    let h = g.A.Read.remaining c.args.first.now in
    let i = g.B.Read.remaining c.args.second.now in
    let one : MayHold h c.deref.result.now = search rules in
    let other : MayHold i c.deref-2.result.now = search rules in
    let r = c.compare_bytes.result in
    let a = (slice_index_or c.args.names 0 no_name).now in
    let b = (slice_index_or c.args.names 1 no_name).now in
    subst (λ n. IfErr r (IsTroubleOf (of_leaves n h (name_among c.args.names 1) i)))
    (name_at c.args.names 0 no_name refl)
    (subst (λ n. IfErr r (IsTroubleOf (of_leaves a h n i))) (name_at c.args.names 1 no_name refl)
    (IfErr-weaker r (IsTroubleOf (of_leaves a (Some c.deref.result.now) b (Some c.deref-2.result.now)))
    (IsTroubleOf (of_leaves a h b i))
    (λ t. trouble_held a b h i c.deref.result.now c.deref-2.result.now t one other) c.compare_bytes.ensures.failed))
