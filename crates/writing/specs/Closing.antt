-- What closing a leaf answers.
use Rattle.std.specs.Prelude.{Ok, Err, Result}
use Rattle.rows.specs.Answers.{Answer, gives, refuses}
use Rattle.writing.specs.declared.closed.ClosedLeaf.{ClosedLeaf}
use Rattle.writing.specs.declared.closed.Unclosed.{Unclosed}

-- what closing answers: that there is no refusal, or that of the fault which the leaf is given back with
abbrev pub closing : Result ClosedLeaf Unclosed → Answer (Unit {0})
closing (Ok leaf) = gives tt
closing (Err u) = refuses u.fault.refusal u.fault.at
