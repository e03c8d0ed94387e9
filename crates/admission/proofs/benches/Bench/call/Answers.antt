use Rattle.std.proofs.Common.{sym}
use Rattle.std.proofs.Math.Path.{subst₂}
use Rattle.admission.specs.Promises.{OverloadMisses}
use Rattle.admission.specs.Replies.{answer_of}
use Rattle.admission.proofs.benches.Bench.call.Goals as goal

pub returns-in-Admit-clause-overload : goal.returns-in-Admit-clause-overload
returns-in-Admit-clause-overload g c =
    let now = c.args.self.now in
    subst₂ (λ call reply. OverloadMisses (g.B.Bound.meaning now.bound) now.book call (answer_of reply))
    (sym c.in-Admit.is) (sym c.into-in-Admit.ensures) c.admit.ensures.overload
