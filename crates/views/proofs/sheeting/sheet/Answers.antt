use Rattle.std.proofs.Common.{[], ◌∷◌, take}
use Rattle.views.proofs.Failing.{fails_amid, fails_before, writes_all}
use Rattle.views.proofs.Refused.{first_uncounted, table_refused, told_no_output}
use Rattle.views.specs.Sheeted.{IsSheetFor}
use Rattle.views.specs.Troubles.{of_table}
use Rattle.views.proofs.sheeting.sheet.Goals as goal

pub returns-in-Ok-put_sheet-clause-written : goal.returns-in-Ok-put_sheet-clause-written
returns-in-Ok-put_sheet-clause-written g c =
    writes_all (IsSheetFor c.args.frame c.args.bound
    (g.R.Read.remaining c.args.reader.now)) (g.W.Write.contents c.args.writer.now)
    (g.W.Write.contents c.write_out.new.writer) (take c.in-Ok-put_sheet.length c.put_sheet.new.buffer)
    (record { table = c.in-Ok.table; read = c.in-Ok.ensures.read; sheet = c.in-Ok-put_sheet.ensures.sheet })
    c.write_out.result c.write_out.ensures.written

pub returns-in-Ok-put_sheet-clause-failed : goal.returns-in-Ok-put_sheet-clause-failed
returns-in-Ok-put_sheet-clause-failed g c =
    fails_amid (IsSheetFor c.args.frame c.args.bound
    (g.R.Read.remaining c.args.reader.now))
    (of_table (g.R.Read.remaining c.args.reader.now) c.args.frame (c.args.bound ∷ []))
    (g.W.Write.contents c.args.writer.now) (g.W.Write.contents c.write_out.new.writer)
    (take c.in-Ok-put_sheet.length c.put_sheet.new.buffer)
    (record { table = c.in-Ok.table; read = c.in-Ok.ensures.read; sheet = c.in-Ok-put_sheet.ensures.sheet })
    c.write_out.result c.write_out.ensures.failed c.write_out.ensures.begun

pub returns-in-Ok-clause-failed : goal.returns-in-Ok-clause-failed
returns-in-Ok-clause-failed g c =
    let t = c.in-Err-put_sheet.trouble in
    let refused = c.in-Err-put_sheet.ensures.refused in
    fails_before (IsSheetFor c.args.frame c.args.bound (g.R.Read.remaining c.args.reader.now))
    (of_table (g.R.Read.remaining c.args.reader.now) c.args.frame (c.args.bound ∷ []))
    (g.W.Write.contents c.args.writer.now) t
    (table_refused (g.R.Read.remaining c.args.reader.now) c.args.frame (c.args.bound ∷ []) c.in-Ok.table t
    c.in-Ok.ensures.read (first_uncounted c.args.frame (c.args.bound ∷ []) c.in-Ok.table t refused))
    (told_no_output c.args.frame (c.args.bound ∷ []) refused.refusal t refused.told)
