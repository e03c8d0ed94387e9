use Rattle.std.proofs.Common.{map}
use Rattle.std.specs.Option.{option_map}
use Rattle.leaves.specs.declared.entries.Entry.TheVariants.{Finding as entry}
use Rattle.reading.proofs.Ranks.{findings_of_size}
use Rattle.reading.proofs.Told.{body_there, told_backwards}
use Rattle.reading.proofs.held.Leaf.finding_body.Goals as goal

pub returns-clause-body : goal.returns-clause-body
returns-clause-body c = λ held holds.
    body_there entry (option_map (λ b. b.now) c.body_at.result) c.args.rank held.findings
    (c.body_at.ensures.body (map entry held.findings) (findings_of_size held.findings) holds.findings)

pub returns-clause-backwards : goal.returns-clause-backwards
returns-clause-backwards c = λ held f holds is.
    told_backwards c.body_at.result c.args.rank held.findings f holds.lawful.good
    (body_there entry (option_map (λ b. b.now) c.body_at.result) c.args.rank held.findings
    (c.body_at.ensures.body (map entry held.findings) (findings_of_size held.findings) holds.findings)) is
