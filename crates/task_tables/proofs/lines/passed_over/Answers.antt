use Rattle.std.proofs.Common.{sym, ◌∙◌, arith}
use Rattle.task_tables.proofs.Passed.{passed_all, passed_next, passed_stop}
use Rattle.task_tables.proofs.lines.passed_over.Goals as goal

pub loop-place-preserved : goal.loop-place-preserved
loop-place-preserved c =
    passed_next c.args.text.now c.loop-place.place _ c.loop-place.in_comment c.in-Some.next _ (omega arith)
    (sym c.passes.ensures ∙ c.in-Some.is) c.loop-place.invariant

pub returns-in-None-clause-count : goal.returns-in-None-clause-count
returns-in-None-clause-count c =
    passed_stop c.args.text.now c.loop-place.place _ c.loop-place.in_comment _ (omega arith)
    (sym c.passes.ensures ∙ c.in-None.is) c.loop-place.invariant

pub returns-clause-count : goal.returns-clause-count
returns-clause-count c =
    let none = passed_all c.args.text.now c.loop-place.place c.loop-place.in_comment (omega arith) in
    let all = c.loop-place.invariant in
    omega arith
