use Rattle.std.proofs.Common.{◌+◌, ◌*◌, ap₂, ◌∙◌, arith}
use Rattle.rows.specs.Lists.{written}
use Rattle.writing.proofs.Numbers.{number_more, numbers_all}
use Rattle.writing.proofs.bytes.put_numbers.Goals as goal

pub loop-i-preserved : goal.loop-i-preserved
loop-i-preserved c =
    c.put-in-loop-i.ensures
    ∙ ap₂ (λ xs ys. written xs (c.args.at + 1 + 4 * c.loop-i.i) ys) c.loop-i.invariant c.to_be_bytes.ensures
    ∙ number_more c.args.buffer.now c.args.at c.args.kind c.args.numbers.now c.requires c.loop-i.i 0 c.loop-i-test.true

pub returns : goal.returns
returns c = c.loop-i.invariant
    ∙ numbers_all c.args.buffer.now c.args.at c.args.kind c.args.numbers.now c.requires c.loop-i.i (omega arith)
