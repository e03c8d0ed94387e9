use Rattle.bounds.specs.Lemmas.StairLaws.{stair_laws}
use Rattle.bounds.proofs.Fitting.{asked_fits}
use Rattle.bounds.proofs.stairs.StaircaseBound.amount_asked.Goals as goal

pub overflow_mul-result-2 : goal.overflow_mul-result-2
overflow_mul-result-2 c =
    let s = c.args.self.now in
    rw (
      c.from.ensures,
      c.from-work.ensures,
      c.from-counted.ensures,
      c.rounded.ensures,
      c.jobs.ensures.answered,
      c.frame.ensures.answered,
      c.row.ensures.answered,
    )
    (record { fits = asked_fits (stair_laws s.accuracy s.low s.high) c.args.question.now c.row.ensures.asked })
