use Rattle.admission.proofs.Called.{seen_sound}
use Rattle.admission.proofs.Standing.{rows_meet}
use Rattle.admission.proofs.benches.Bench.findings.Goals as goal

pub returns-clause-both : goal.returns-clause-both
returns-clause-both g c =
    let now = c.args.self.now in
    rows_meet (g.B.Bound.meaning now.bound) (g.met.B.Bound.lawful now.bound) now.book
    (seen_sound g.B.Bound.meaning c.self.inside.bound c.self.inside.kept now c.self.view_is c.rows-rows.ensures.judged
    c.self.invariant)
