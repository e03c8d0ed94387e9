use Rattle.admission.proofs.Called.{seen_sound}
use Rattle.admission.proofs.Finer.{finer_admits_on, finer_rests_on}
use Rattle.admission.proofs.Overloads.{first_miss_decides}
use Rattle.admission.proofs.Standing.{rows_meet}
use Rattle.admission.proofs.benches.Bench.table.Goals as goal

pub returns-clause-both : goal.returns-clause-both
returns-clause-both g c =
    let now = c.args.self.now in
    rows_meet (g.B.Bound.meaning now.bound) (g.met.B.Bound.lawful now.bound) now.book
    (seen_sound g.B.Bound.meaning c.self.inside.bound c.self.inside.kept now c.self.view_is c.rows-rows.ensures.judged
    c.self.invariant)

pub returns-clause-decides : goal.returns-clause-decides
returns-clause-decides g c =
    let now = c.args.self.now in
    first_miss_decides (g.B.Bound.meaning now.bound) now.book
    (seen_sound g.B.Bound.meaning c.self.inside.bound c.self.inside.kept now c.self.view_is c.rows-rows.ensures.judged
    c.self.invariant)

pub returns-clause-finer_admits : goal.returns-clause-finer_admits
returns-clause-finer_admits g c =
    let now = c.args.self.now in
    finer_admits_on now.book
    (seen_sound g.B.Bound.meaning c.self.inside.bound c.self.inside.kept now c.self.view_is c.rows-rows.ensures.judged
    c.self.invariant).stand

pub returns-clause-finer_rests : goal.returns-clause-finer_rests
returns-clause-finer_rests g c =
    let now = c.args.self.now in
    finer_rests_on now.book
    (seen_sound g.B.Bound.meaning c.self.inside.bound c.self.inside.kept now c.self.view_is c.rows-rows.ensures.judged
    c.self.invariant).stand
