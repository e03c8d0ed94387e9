use Rattle.std.proofs.Common.{◌≡◌, subst}
use Rattle.std.proofs.lemmas.Result.{IfErr-weaker, IfOk-weaker}
use Rattle.rows.specs.Answers.{Passes, first_refusal, refuses}
use Rattle.rows.proofs.Checks.{gives_any, refuses_any}
use Rattle.filings.specs.Checks.{filing_checks}
use Rattle.filings.proofs.Order.{bounds_passed}
use Rattle.views.proofs.BadKinds.{accuracy_bad}
use Rattle.views.proofs.Counts.{counted_is}
use Rattle.views.proofs.Refused.{first_uncounted, room_uncounted}
use Rattle.views.proofs.counted.count_read.Goals as goal

pub count_judged-requires : goal.count_judged-requires
count_judged-requires g c =
    let cs = filing_checks c.args.how.frame c.args.how.bounds.now c.numbers.result.now in
    bounds_passed c.args.how.frame c.args.how.bounds.now c.numbers.result.now
    (gives_any cs _ _ c.in-Ok.ensures.answered tt)

pub trouble-requires : goal.trouble-requires
trouble-requires g c =
    let cs = filing_checks c.args.how.frame c.args.how.bounds.now c.numbers.result.now in
    let fault = c.in-Err.fault in
    accuracy_bad c.args.how.frame c.args.how.bounds.now c.numbers.result.now fault.refusal fault.at
    (refuses_any cs fault.refusal fault.at _ c.in-Err.ensures.answered tt)

pub returns-in-Ok-clause-counted : goal.returns-in-Ok-clause-counted
returns-in-Ok-clause-counted g c =
    let h = c.args.how.frame in
    let bs = c.args.how.bounds.now in
    let ns = c.numbers.result.now in
    let passes : Passes (filing_checks h bs ns) =
    gives_any (filing_checks h bs ns) _ _ c.in-Ok.ensures.answered tt in
    IfOk-weaker c.count_judged.result _ _
    (λ counted is.
    counted_is h bs c.args.table ns c.in-Ok.judged counted c.numbers.ensures.numbers passes c.in-Ok.ensures.made
    c.in-Ok.ensures.rows is)
    c.count_judged.ensures.counted

pub returns-in-Ok-clause-refused : goal.returns-in-Ok-clause-refused
returns-in-Ok-clause-refused g c =
    IfErr-weaker c.count_judged.result _ _
    (λ t room. room_uncounted c.args.how.frame c.args.how.bounds.now c.args.table t room)
    c.count_judged.ensures.room

pub returns-in-Err-clause-refused : goal.returns-in-Err-clause-refused
returns-in-Err-clause-refused g c =
    let h = c.args.how.frame in
    let bs = c.args.how.bounds.now in
    let e = c.in-Err.fault in
    let first =
    refuses_any (filing_checks h bs c.numbers.result.now) e.refusal e.at _ c.in-Err.ensures.answered tt in
    first_uncounted h bs c.args.table c.trouble.result (record {
      refusal = e.refusal;
      at = e.at;
      first = subst
          (λ ns. refuses e.refusal e.at ≡ first_refusal (filing_checks h bs ns)) c.numbers.ensures.numbers first;
      told = c.trouble.ensures;
    })
