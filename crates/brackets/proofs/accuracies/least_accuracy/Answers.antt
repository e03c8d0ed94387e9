use Rattle.std.proofs.Common.{arith}
use Rattle.bounds.specs.Instants.{IsFirst}
use Rattle.bounds.specs.Meaning.{finest}
use Rattle.brackets.specs.Counting.{has_rest_by}
use Rattle.findings.proofs.OnFrame.{judged_stand}
use Rattle.brackets.proofs.Tails.{finer_tails}
use Rattle.brackets.proofs.Tried.{tail_meets, meets_from, least_met, none_met}
use Rattle.brackets.proofs.accuracies.least_accuracy.Goals as goal

-- the accuracy at hand is the first by which the row meets
first : (c : goal.In-Meets)
    → IsFirst (has_rest_by c.args.above.now.frame c.args.row.now c.args.above.now.rows) 0 finest
    c.loop-accuracy.accuracy
first c = record {
  after = omega arith;
  within = omega arith;
  holds = tail_meets c.args.row.now c.args.above.now _ _ _ _ c.in_ok-tail.ensures c.in_ok-finding.ensures.answered
      c.in-Meets.is;
  none = λ i low high. (c.loop-accuracy.invariant i low high).1;
}

pub returns-in-Meets : goal.returns-in-Meets
returns-in-Meets c =
    let answered = c.in_ok-finding.ensures.answered in
    record {
      answered = least_met c.args.row.now c.args.above.now _ _ _ answered (first c);
      from = meets_from c.args.row.now c.args.above.now _ (judged_stand c.args.above.now c.in_ok-finding.ensures.judged)
          (first c);
      finer = finer_tails;
    }

pub returns-clause-answered : goal.returns-clause-answered
returns-clause-answered c =
    none_met c.args.row.now c.args.above.now (λ k low high. c.loop-accuracy.invariant k low (omega arith))
