use Rattle.std.proofs.lemmas.Result.{IfErr-weaker}
use Rattle.views.proofs.Refused.{table_refused}
use Rattle.views.proofs.counted.count_table.Goals as goal

pub returns-in-Ok-clause-refused : goal.returns-in-Ok-clause-refused
returns-in-Ok-clause-refused g c =
    IfErr-weaker c.count_read.result _ _
    (λ t refused.
    table_refused (g.R.Read.remaining c.args.reader.now) c.args.how.frame c.args.how.bounds.now c.in-Ok.table t
    c.in-Ok.ensures.read refused)
    c.count_read.ensures.refused
