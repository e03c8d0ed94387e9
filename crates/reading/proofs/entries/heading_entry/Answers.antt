use Rattle.leaves.specs.Entries.{heading_size}
use Rattle.reading.proofs.Taking.{heading_taken}
use Rattle.reading.proofs.entries.heading_entry.Goals as goal

pub returns-clause-taken : goal.returns-clause-taken
returns-clause-taken c =
    heading_taken c.args.body.now heading_size c.in_ok-heading.heading c.heading_fields.result c.args.at
    c.heading_fields.ensures.same c.in_ok-heading.ensures
