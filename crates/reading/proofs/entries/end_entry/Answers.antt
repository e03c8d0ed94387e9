use Rattle.std.proofs.Common.{arith}
use Rattle.leaves.specs.Entries.{end_size}
use Rattle.reading.proofs.Taking.{end_taken}
use Rattle.reading.proofs.entries.end_entry.Goals as goal

pub returns-clause-taken : goal.returns-clause-taken
returns-clause-taken c =
    end_taken c.args.body.now end_size c.args.heading c.number_at-number.result c.args.rows c.args.findings
    (omega arith) (omega arith) c.number_at-number.ensures.same
