use Rattle.bounds.proofs.Fitting.{asked_fits}
use Rattle.batches.specs.Lemmas.BatchLaws.{batches_laws}
use Rattle.batches.proofs.BatchesBound.amount_asked.Goals as goal

pub overflow_mul-result-2 : goal.overflow_mul-result-2
overflow_mul-result-2 c =
    rw (
      c.from.ensures,
      c.from-2.ensures,
      c.batch_count-jobs.ensures,
      c.job_count.ensures,
      c.frame.ensures.answered,
      c.row-row.ensures.answered,
      c.at.ensures.answered,
    )
    (record { fits = asked_fits (batches_laws c.args.self.now) c.args.question.now c.row-row.ensures.asked })
