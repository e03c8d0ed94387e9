use Rattle.std.proofs.Common.{Some, None, ap, ◌∙◌}
use Rattle.rows.specs.Found.{tells}
use Rattle.reading.proofs.Told.{finding_told}
use Rattle.reading.proofs.held.Leaf.finding.Goals as goal

pub returns-in_err-body : goal.returns-in_err-body
returns-in_err-body c = λ held holds.
    rw c.from_residual.ensures
    (finding_told None c.args.rank held.findings holds.lawful.good (c.in_err-body.ensures.body held holds))

pub returns : goal.returns
returns c = λ held holds.
    ap (λ f. Some (tells f)) c.finding_fields.ensures.answered
    ∙ finding_told (Some c.in_ok-body.body.now) c.args.rank held.findings holds.lawful.good
    (c.in_ok-body.ensures.body held holds)
