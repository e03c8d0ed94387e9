use Rattle.std.proofs.Common.{◌≡◌, ◌-◌, ◌<◌, [], length, arith}
use Rattle.findings.proofs.Tables.{put_more, put_all, stays_more, outside_end}
use Rattle.brackets.specs.Responses.{responses_of}
use Rattle.brackets.proofs.Responses.{length_responses_below, response_at}
use Rattle.brackets.proofs.responding.fill.Goals as goal

pub loop-i-preserved : goal.loop-i-preserved
loop-i-preserved c =
    let rows = c.args.rows.now in
    let old = c.args.list.now in
    let i = c.loop-i.i in
    let o = c.respond.result in
    let room : i < length old = omega (arith, c.requires.room, c.loop-i-test.true) in
    let left : i - 0 < length (responses_of rows) = omega (arith, length_responses_below [] rows, c.loop-i-test.true) in
    let next = response_at rows i c.index-rows-i.result o c.loop-i-test.true c.index-rows-i.is c.respond.ensures in
    record {
      within = omega (arith, c.loop-i-test.true);
      put = put_more old (responses_of rows) 0 c.loop-i.list i o c.loop-i.invariant.put (omega arith) room left next;
      stay = stays_more old c.loop-i.list 0 i o (omega arith) c.loop-i.invariant.stay;
    }

pub returns : goal.returns
returns c =
    let rows = c.args.rows.now in
    let i = c.loop-i.i in
    let whole : i - 0 ≡ length (responses_of rows) =
    omega (arith, length_responses_below [] rows, c.loop-i-test.false, c.loop-i.invariant.within) in
    record {
      filled = put_all c.args.list.now (responses_of rows) 0 c.loop-i.list i c.loop-i.invariant.put whole;
      stay = λ k d outside.
          c.loop-i.invariant.stay k d
          (outside_end 0 (length rows) i k (omega (arith, c.loop-i.invariant.within)) outside);
    }
