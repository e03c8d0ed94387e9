use Rattle.findings.specs.Trees.{IsTree, LeavesUnder}
use Rattle.findings.proofs.trees.planted.Given as goal

abbrev pub invariant-loop-node : goal.invariant-loop-node
invariant-loop-node l = record { tree : IsTree l.keys; leaves : LeavesUnder l.nexts l.keys }
