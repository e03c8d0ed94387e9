use Rattle.std.proofs.Common.{rules}
use Rattle.admission.proofs.RanksTold.{others_tell_zero}
use Rattle.admission.proofs.calls.tells_rank.Goals as goal

pub returns-in-NewcomerOverload-clause-others : goal.returns-in-NewcomerOverload-clause-others
returns-in-NewcomerOverload-clause-others c = others_tell_zero

pub returns-in_default : goal.returns-in_default
returns-in_default c = record { answered = search rules; others = others_tell_zero }
