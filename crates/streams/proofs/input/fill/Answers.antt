use Rattle.std.proofs.Common.{arith}
use Rattle.std.proofs.lemmas.Result.{err_from_is_err_and}
use Rattle.std.proofs.lemmas.Grind.{common_steps}
use Rattle.streams.proofs.Parts.{Consumes-more, lost_before}
use Rattle.streams.proofs.input.fill.Goals as goal

pub returns-in_err-more-clause-lost : goal.returns-in_err-more-clause-lost
returns-in_err-more-clause-lost g c =
    let p = err_from_is_err_and c.from_residual.result c.from_residual.ensures.1 in
    rw p.1
    (lost_before _ _ _ c.loop-count.buffer c.read_again.new.buffer c.loop-count.count _ _ c.loop-count.invariant.within
    (omega arith)
    c.loop-count.invariant.read c.in_err-more.ensures.read)

pub loop-count-preserved : goal.loop-count-preserved
loop-count-preserved g c = record {
  within = grind (arith, common_steps);
  read = Consumes-more _ _ _ c.loop-count.buffer c.read_again.new.buffer c.loop-count.count _ c.in_ok-more.more
      c.loop-count.invariant.within c.in_ok-more.ensures.within.0 c.loop-count.invariant.read
      c.in_ok-more.ensures.read.0;
}
