use Rattle.std.proofs.Common.{ℕ, arith}
use Rattle.std.proofs.lemmas.List.{length-take, length-drop}
use Rattle.streams.proofs.Parts.{Appends-more}
use Rattle.streams.proofs.output.write_whole.Goals as goal

pub loop-count-preserved : goal.loop-count-preserved
loop-count-preserved g c = record {
  within = omega (arith, length-take {A = ℕ}, length-drop {A = ℕ}, c.in_ok-more.ensures.within);
  put = Appends-more _ _ _ c.args.bytes.now c.loop-count.count c.in_ok-more.more c.loop-count.invariant.put
      c.in_ok-more.ensures.put;
}
