use Rattle.std.proofs.lemmas.Result.{IfErr-weaker, on_ok_weaker}
use Rattle.views.proofs.Refused.{rank_lacking}
use Rattle.views.proofs.drawing.plot.Goals as goal

pub returns-in-Ok-clause-drawn : goal.returns-in-Ok-clause-drawn
returns-in-Ok-clause-drawn g c =
    on_ok_weaker c.plot_counted.result (λ is_rank. record {
      counted = c.in-Ok.counted;
      read = c.in-Ok.ensures.read;
      is_count = c.in-Ok.ensures.counted;
      is_rank = is_rank;
    }) c.plot_counted.ensures.drawn

pub returns-in-Ok-clause-failed : goal.returns-in-Ok-clause-failed
returns-in-Ok-clause-failed g c =
    IfErr-weaker c.plot_counted.result _ _ (λ t failed before.
    let (tells, keeps) = failed before in (
      rank_lacking c.args.rank (g.R.Read.remaining c.args.reader.now) c.args.how.frame
          c.args.how.bounds.now c.in-Ok.counted t c.in-Ok.ensures.read c.in-Ok.ensures.counted tells,
      keeps,
    )) c.plot_counted.ensures.failed
