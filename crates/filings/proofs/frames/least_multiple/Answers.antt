use Rattle.std.proofs.Common.{◌∙◌, arith}
use Rattle.filings.proofs.CommonFrames.{all_joined, multiple_is, joined_more, none_is, none_more, nothing}
use Rattle.filings.proofs.frames.least_multiple.Goals as goal

pub returns-in_err-frame-clause-answered : goal.returns-in_err-frame-clause-answered
returns-in_err-frame-clause-answered c =
    c.from_residual.ensures
    ∙ none_is c.args.table.now
    (none_more c.args.table.now c.loop-numbers.numbers-index nothing c.loop-numbers-test.true c.loop-numbers.frame
    c.loop-numbers.invariant c.in_err-frame.ensures)

pub returns-in_err-frame-clause-least : goal.returns-in_err-frame-clause-least
returns-in_err-frame-clause-least c =
    rw c.from_residual.ensures
    (none_more c.args.table.now c.loop-numbers.numbers-index nothing c.loop-numbers-test.true c.loop-numbers.frame
    c.loop-numbers.invariant c.in_err-frame.ensures)

pub loop-numbers-preserved : goal.loop-numbers-preserved
loop-numbers-preserved c =
    joined_more c.args.table.now c.loop-numbers.numbers-index nothing c.loop-numbers-test.true c.loop-numbers.frame
    c.loop-numbers.invariant c.in_ok-frame.frame c.in_ok-frame.ensures

pub returns-clause-answered : goal.returns-clause-answered
returns-clause-answered c =
    multiple_is c.args.table.now c.loop-numbers.frame
    (all_joined c.args.table.now c.loop-numbers.numbers-index c.loop-numbers.frame
    (omega (arith, c.loop-numbers-test.false)) c.loop-numbers.invariant)
