use Rattle.brackets.proofs.Tried.{Tried}
use Rattle.brackets.proofs.accuracies.least_accuracy.Given as goal

abbrev pub invariant-loop-accuracy : goal.invariant-loop-accuracy
invariant-loop-accuracy l = Tried l.row l.above l.accuracy
