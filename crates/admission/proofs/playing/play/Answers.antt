use Rattle.std.proofs.Common.{◌-◌, ◌<◌, map, length, ◌∙◌, arith, length-set}
use Rattle.std.proofs.lemmas.List.{length-map, map-set}
use Rattle.findings.proofs.Tables.{put_all, put_more, stays_more}
use Rattle.admission.specs.Replies.{answer_of}
use Rattle.admission.specs.Runs.{answers_to}
use Rattle.admission.proofs.Played.{becomes_more, replies_more}
use Rattle.admission.proofs.Runs.{length_answers_to}
use Rattle.admission.proofs.Finer.{finer_admits, finer_rests}
use Rattle.admission.proofs.Overloads.{first_misses_decide, overloads_miss}
use Rattle.admission.proofs.Standing.{standing_rows_meet}
use Rattle.admission.proofs.playing.play.Goals as goal

pub returns-then-replies-calls-clause-meet : goal.returns-then-replies-calls-clause-meet
returns-then-replies-calls-clause-meet g c =
    standing_rows_meet (g.B.Bound.meaning c.args.bound) (g.met.B.Bound.lawful c.args.bound)

pub returns-then-replies-calls-clause-overloads : goal.returns-then-replies-calls-clause-overloads
returns-then-replies-calls-clause-overloads g c =
    overloads_miss (g.B.Bound.meaning c.args.bound) (g.met.B.Bound.lawful c.args.bound)

pub returns-then-replies-calls-clause-decide : goal.returns-then-replies-calls-clause-decide
returns-then-replies-calls-clause-decide g c = first_misses_decide (g.B.Bound.meaning c.args.bound)

pub returns-then-replies-calls-clause-finer_admits : goal.returns-then-replies-calls-clause-finer_admits
returns-then-replies-calls-clause-finer_admits g c = finer_admits

pub returns-then-replies-calls-clause-finer_rests : goal.returns-then-replies-calls-clause-finer_rests
returns-then-replies-calls-clause-finer_rests g c = finer_rests

pub returns-clause-meet : goal.returns-clause-meet
returns-clause-meet g c = standing_rows_meet (g.B.Bound.meaning c.args.bound) (g.met.B.Bound.lawful c.args.bound)

pub returns-clause-overloads : goal.returns-clause-overloads
returns-clause-overloads g c = overloads_miss (g.B.Bound.meaning c.args.bound) (g.met.B.Bound.lawful c.args.bound)

pub returns-clause-decide : goal.returns-clause-decide
returns-clause-decide g c = first_misses_decide (g.B.Bound.meaning c.args.bound)

pub returns-clause-finer_admits : goal.returns-clause-finer_admits
returns-clause-finer_admits g c = finer_admits

pub returns-clause-finer_rests : goal.returns-clause-finer_rests
returns-clause-finer_rests g c = finer_rests

pub loop-i-preserved : goal.loop-i-preserved
loop-i-preserved g c =
    let m = g.B.Bound.meaning c.args.bound in
    let i = c.loop-i.i in
    let all = answers_to m c.args.calls.now in
    let old = map answer_of c.args.replies.now in
    let now = map answer_of c.loop-i.replies in
    let room : i < length old =
    omega (arith, length-map c.args.replies.now answer_of, c.loop-i-test.true, c.if-replies-calls.false) in
    let left : i - 0 < length all = omega (arith, length_answers_to m c.args.calls.now, c.loop-i-test.true) in
    let next = replies_more g.B.Bound.meaning c.args.bound c.args.calls.now i _ c.loop-i.bench c.call.new.self
    c.call.result c.loop-i-test.true c.loop-i.invariant.became c.call.ensures.does in
    record {
      became = becomes_more g.B.Bound.meaning c.args.bound c.args.calls.now i _ c.loop-i.bench c.call.new.self
          c.call.result c.loop-i-test.true c.loop-i.invariant.became c.call.ensures.does;
      put = map-set answer_of c.loop-i.replies i c.call.result
          ∙ put_more old all 0 now i (answer_of c.call.result) c.loop-i.invariant.put (omega arith) room left next;
      stay = stays_more c.args.replies.now c.loop-i.replies 0 i c.call.result (omega arith) c.loop-i.invariant.stay;
      room = length-set c.loop-i.replies i c.call.result ∙ c.loop-i.invariant.room;
    }

pub returns-clause-replied : goal.returns-clause-replied
returns-clause-replied g c =
    let m = g.B.Bound.meaning c.args.bound in
    let all = answers_to m c.args.calls.now in
    put_all (map answer_of c.args.replies.now) all 0 (map answer_of c.loop-i.replies) c.loop-i.i c.loop-i.invariant.put
    (omega (arith, length_answers_to m c.args.calls.now, c.loop-i-test.false, c.loop-i.auto.i-end))
