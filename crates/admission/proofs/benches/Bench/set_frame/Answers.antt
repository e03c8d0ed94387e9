use Rattle.std.proofs.Common.{◌≡◌, length, subst, arith, rules}
use Rattle.admission.specs.declared.calls.Call.TheVariants.{Frame}
use Rattle.admission.specs.declared.calls.Reply.TheVariants.{Done}
use Rattle.admission.specs.Benches.{Does}
use Rattle.admission.proofs.Called.{seen, sets_frame}
use Rattle.admission.proofs.Runs.{goes_on}
use Rattle.admission.proofs.benches.Bench.set_frame.Goals as goal

pub returns-clause-does : goal.returns-clause-does
returns-clause-does g c =
    let s = c.self.inside in
    let new = c.empty-self-inside in
    let none : length s.kept.table.rows ≡ 0 =
    omega (arith, c.len-rows_stand.ensures.answered, c.if-rows_stand.false) in
    subst (λ b. Does (g.B.Bound.meaning b.bound) (Frame c.args.frame) b (seen s.bound new.result) Done) c.self.view_is
    (sets_frame (g.B.Bound.meaning s.bound) s.bound s.kept new.result c.args.frame c.in_ok-frame.frame
    c.in_ok-frame.ensures.answered none new.ensures.table new.ensures.findings)

pub returns-clause-goes_on : goal.returns-clause-goes_on
returns-clause-goes_on g c = goes_on _ (returns-clause-does g c)

pub returns-in_err-frame-clause-does : goal.returns-in_err-frame-clause-does
returns-in_err-frame-clause-does g c = search rules

pub returns-in_err-frame-clause-goes_on : goal.returns-in_err-frame-clause-goes_on
returns-in_err-frame-clause-goes_on g c = goes_on _ (returns-in_err-frame-clause-does g c)

pub returns-then-rows_stand-clause-does : goal.returns-then-rows_stand-clause-does
returns-then-rows_stand-clause-does g c = search rules

pub returns-then-rows_stand-clause-goes_on : goal.returns-then-rows_stand-clause-goes_on
returns-then-rows_stand-clause-goes_on g c = goes_on _ (returns-then-rows_stand-clause-does g c)
