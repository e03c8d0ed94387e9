use Rattle.std.proofs.Common.{◌+◌, ◌-◌, length, Some, None, arith}
use Rattle.rows.specs.Times.{horizon}
use Rattle.bounds.proofs.Marking.{next_corner_tells, marked_set, marked_all}
use Rattle.bounds.proofs.Marking.{marked_to, marked_last, up_to_holds, least_past}
use Rattle.bounds.proofs.Marking.{least_past_none}
use Rattle.bounds.proofs.interface.Bound.mark.Goals as goal

pub overflow_sub-place : goal.overflow_sub-place
overflow_sub-place g c =
    let told = next_corner_tells (g.Self.Bound.meaning c.args.self.now) c.args.row.now in
    let first = told c.loop-at.seen (Some c.in-Some.at) c.in-Some.ensures in
    omega (arith, c.loop-at.invariant.from, first.after)

pub overflow_sub-place-in-Some : goal.overflow_sub-place-in-Some
overflow_sub-place-in-Some g c =
    let told = next_corner_tells (g.Self.Bound.meaning c.args.self.now) c.args.row.now in
    let first = told c.loop-at.seen (Some c.in-Some.at) c.in-Some.ensures in
    omega (arith, c.loop-at.invariant.from, first.after)

pub returns-then-place-marks-clause-marks : goal.returns-then-place-marks-clause-marks
returns-then-place-marks-clause-marks g c =
    let corner = (g.Self.Bound.meaning c.args.self.now).is_corner c.args.row.now in
    let told = next_corner_tells (g.Self.Bound.meaning c.args.self.now) c.args.row.now in
    let first = told c.loop-at.seen (Some c.in-Some.at) c.in-Some.ensures in
    let known = c.loop-at.invariant in
    marked_all (marked_to corner horizon c.in-Some.at known.marked first (omega arith) (omega (arith, first.after)))
    (omega (arith, first.after, known.from, c.if-place-marks.true, known.marked.size))

pub returns-then-place-marks-clause-past : goal.returns-then-place-marks-clause-past
returns-then-place-marks-clause-past g c =
    let corner = (g.Self.Bound.meaning c.args.self.now).is_corner c.args.row.now in
    let told = next_corner_tells (g.Self.Bound.meaning c.args.self.now) c.args.row.now in
    let first = told c.loop-at.seen (Some c.in-Some.at) c.in-Some.ensures in
    least_past corner horizon (c.args.after + length c.args.marks.now) first c.loop-at.invariant.within
    (omega (arith, first.after, c.loop-at.invariant.from, c.if-place-marks.true, c.loop-at.invariant.marked.size))
    first.within

pub loop-at-smaller : goal.loop-at-smaller
loop-at-smaller g c =
    let told = next_corner_tells (g.Self.Bound.meaning c.args.self.now) c.args.row.now in
    let first = told c.loop-at.seen (Some c.in-Some.at) c.in-Some.ensures in
    omega (arith, first.after, first.within)

pub loop-at-preserved : goal.loop-at-preserved
loop-at-preserved g c =
    let corner = (g.Self.Bound.meaning c.args.self.now).is_corner c.args.row.now in
    let told = next_corner_tells (g.Self.Bound.meaning c.args.self.now) c.args.row.now in
    let first = told c.loop-at.seen (Some c.in-Some.at) c.in-Some.ensures in
    let known = c.loop-at.invariant in
    let reached = marked_to corner horizon c.in-Some.at known.marked first (omega arith) (omega (arith, first.after)) in
    record {
      from = omega (arith, known.from, first.after);
      within = omega (arith, known.from, first.after, c.if-place-marks.false, known.marked.size);
      marked = marked_set (c.in-Some.at - c.args.after - 1) reached
          (up_to_holds corner horizon c.in-Some.at first.within first.holds)
          (omega (arith, known.from, first.after)) (omega (arith, c.if-place-marks.false, known.marked.size));
    }

pub returns-clause-marks : goal.returns-clause-marks
returns-clause-marks g c =
    let corner = (g.Self.Bound.meaning c.args.self.now).is_corner c.args.row.now in
    let told = next_corner_tells (g.Self.Bound.meaning c.args.self.now) c.args.row.now in
    let none = told c.loop-at.seen None c.in_default.ensures in
    marked_last corner horizon c.loop-at.invariant.marked none (omega arith) (omega (arith, c.loop-at.invariant.within))

pub returns-clause-past : goal.returns-clause-past
returns-clause-past g c =
    let corner = (g.Self.Bound.meaning c.args.self.now).is_corner c.args.row.now in
    let told = next_corner_tells (g.Self.Bound.meaning c.args.self.now) c.args.row.now in
    let none = told c.loop-at.seen None c.in_default.ensures in
    least_past_none corner horizon c.loop-at.seen
    (c.args.after + length c.args.marks.now) none c.loop-at.invariant.within
