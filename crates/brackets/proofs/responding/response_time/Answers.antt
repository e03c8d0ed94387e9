use Rattle.std.proofs.Common.{length, ltb, sym, ap, ◌∙◌, arith}
use Rattle.std.proofs.lemmas.Bool.{le-ltb}
use Rattle.rows.specs.declared.refusals.Refusal.TheVariants.{FullTable}
use Rattle.rows.specs.Answers.{gives}
use Rattle.rows.proofs.Checks.{passes_on}
use Rattle.findings.specs.Asking.{most_above}
use Rattle.findings.specs.Exact.{response}
use Rattle.brackets.proofs.Responses.{on_frames, responds_so}
use Rattle.brackets.proofs.responding.response_time.Goals as goal

pub returns-clause-answered : goal.returns-clause-answered
returns-clause-answered c =
    let many = length c.args.above.now in
    ap gives c.respond.ensures
    ∙ sym (passes_on (ltb most_above many) FullTable 0 (gives (response c.args.row.now c.args.above.now))
    (le-ltb most_above many (omega (arith, c.if-above-ge-MOST_ROWS.false))))

pub returns-clause-fixed : goal.returns-clause-fixed
returns-clause-fixed c = responds_so c.args.row.now c.args.above.now _ c.respond.ensures

pub returns-clause-frames : goal.returns-clause-frames
returns-clause-frames c = on_frames c.args.row.now c.args.above.now _ c.respond.ensures
