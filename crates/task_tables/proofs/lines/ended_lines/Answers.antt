use Rattle.std.proofs.Common.{◌∙◌, sym, arith}
use Rattle.task_tables.proofs.Passed.{ended_all, none_ended, one_ended}
use Rattle.task_tables.proofs.lines.ended_lines.Goals as goal
use Rattle.task_tables.proofs.lines.ended_lines.Goals.{then-ends_line_behind, else-ends_line_behind}

pub loop-byte-preserved : goal.loop-byte-preserved
loop-byte-preserved c =
    elim c.if-ends_line_behind.branch [
      | then-ends_line_behind w ↦
          rw (w.ended-is, w.previous-is) (record {
            few = omega (arith, c.loop-byte.invariant.few);
            count = one_ended c.args.text.now c.loop-byte.byte-index _ c.loop-byte.previous c.loop-byte.ended _
                (omega arith) (sym c.ends_line_behind.ensures ∙ w.if-ends_line_behind.true) c.loop-byte.invariant.count;
          })
      | else-ends_line_behind w ↦
          rw (w.ended-is, w.previous-is) (record {
            few = omega (arith, c.loop-byte.invariant.few);
            count = none_ended c.args.text.now c.loop-byte.byte-index _ c.loop-byte.previous c.loop-byte.ended _
                (omega arith)
                (sym c.ends_line_behind.ensures ∙ w.if-ends_line_behind.false) c.loop-byte.invariant.count;
          })
    ]

pub returns-clause-count : goal.returns-clause-count
returns-clause-count c =
    let none = ended_all c.args.text.now c.loop-byte.byte-index c.loop-byte.previous (omega arith) in
    let all = c.loop-byte.invariant.count in
    omega arith
