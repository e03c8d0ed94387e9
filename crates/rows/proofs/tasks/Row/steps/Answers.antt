use Rattle.std.proofs.Common.{◌≡◌, ◌+◌, ◌*◌, ap, arith}
use Rattle.rows.specs.Counting.{steps}
use Rattle.rows.proofs.Ceiling.{ceiling_by_quotient, steps_jobs}
use Rattle.rows.proofs.Rising.{rising}
use Rattle.rows.proofs.tasks.Row.steps.Goals as goal

pub returns : goal.returns
returns c =
    let row = c.args.self.now in
    let jobs = ceiling_by_quotient (c.args.at + row.jitter) row.period (omega arith) in
    let value : c.from-4.result * c.div_ceil-jobs.result ≡ steps row c.args.at =
    rw (c.from-4.ensures, c.div_ceil-jobs.ensures, c.from.ensures, c.from-2.ensures, c.from-3.ensures)
    (ap (λ n. row.work * n) jobs) in
    record {
      answered = value;
      jobs =
          steps_jobs row c.args.at (c.from-4.result * c.div_ceil-jobs.result) value;
      rising = rising row;
    }
