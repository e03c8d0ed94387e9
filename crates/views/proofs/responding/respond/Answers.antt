use Rattle.std.proofs.Common.{rules}
use Rattle.views.proofs.Failing.{fails_amid, fails_before, writes_all}
use Rattle.views.proofs.Flaws.{flaw_is}
use Rattle.views.specs.Responded.{IsResponsesFor}
use Rattle.views.specs.Troubles.{of_responses}
use Rattle.views.proofs.responding.respond.Goals as goal

pub returns-in-Ok-text_of-clause-written : goal.returns-in-Ok-text_of-clause-written
returns-in-Ok-text_of-clause-written g c =
    writes_all (IsResponsesFor (g.R.Read.remaining c.args.reader.now)) (g.W.Write.contents c.args.writer.now)
    (g.W.Write.contents c.write_out.new.writer) c.deref.result.now
    (record { table = c.in-Ok.table; read = c.in-Ok.ensures.read; text_is = search rules })
    c.write_out.result c.write_out.ensures.written

pub returns-in-Ok-text_of-clause-failed : goal.returns-in-Ok-text_of-clause-failed
returns-in-Ok-text_of-clause-failed g c =
    let held = g.R.Read.remaining c.args.reader.now in
    fails_amid (IsResponsesFor held) (of_responses held) (g.W.Write.contents c.args.writer.now)
    (g.W.Write.contents c.write_out.new.writer) c.deref.result.now
    (record { table = c.in-Ok.table; read = c.in-Ok.ensures.read; text_is = search rules })
    c.write_out.result c.write_out.ensures.failed c.write_out.ensures.begun

pub returns-in-Ok-clause-failed : goal.returns-in-Ok-clause-failed
returns-in-Ok-clause-failed g c =
    let held = g.R.Read.remaining c.args.reader.now in
    let t = c.in-Err-text_of.trouble in
    let (is, before) = flaw_is held c.in-Ok.table t c.in-Ok.ensures.read c.in-Err-text_of.ensures.refused in
    fails_before _ (of_responses held) (g.W.Write.contents c.args.writer.now) t is before
