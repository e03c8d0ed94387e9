use Rattle.std.proofs.Common.{arith}
use Rattle.std.proofs.lemmas.Nat.Gcd.{IsGcd-from_zero, IsGcd-from_mod}
use Rattle.filings.proofs.Multiples.{remainder_multiplied}
use Rattle.filings.proofs.frames.common_divisor.Goals as goal

pub loop-rest-preserved : goal.loop-rest-preserved
loop-rest-preserved c = record {
  greatest = λ g h. c.loop-rest.invariant.greatest g (IsGcd-from_mod _ _ g h);
  multiplied = λ p k first second.
      let so_far = c.loop-rest.invariant.multiplied p k first second in
      (so_far.1, remainder_multiplied c.loop-rest.divisor c.loop-rest.rest p k so_far.0 so_far.1);
}

pub returns : goal.returns
returns c = record {
  greatest = c.loop-rest.invariant.greatest _ (IsGcd-from_zero _ _ (omega arith));
  multiplied = λ p k first second. (c.loop-rest.invariant.multiplied p k first second).0;
}
