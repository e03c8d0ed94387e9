use Rattle.std.proofs.Common.{◌≡◌, ℕ, ◌+◌, ◌<◌, ◌≤◌, ◌∙◌, true, length, sym, subst, arith}
use Rattle.bounds.specs.Instants.{IsFirst}
use Rattle.bounds.proofs.Marking.{least_past, least_past_none, marked_set, marked_to, up_to_holds}
use Rattle.bounds.proofs.walks.mark_along.Goals as goal

pub loop-place-preserved : goal.loop-place-preserved
loop-place-preserved g c =
    let known = c.loop-place.invariant in
    let kind = g.W.Walk.kind c.args.walk in
    let now = g.W.Walk.here c.loop-place.walk in
    let later = g.W.Walk.here c.go_on.new.self in
    let next = subst (λ p. IsFirst p now later later) known.kind c.go_on.ensures.next in
    let near : now ≤ c.args.last = omega (arith, known.here, c.loop-place-test.true, c.min-end.ensures) in
    let small : c.loop-place.place < length c.args.marks.now =
    omega (arith, c.loop-place-test.true, c.min-end.ensures) in
    let set = marked_set c.loop-place.place known.marked
    (up_to_holds kind c.args.last now near known.holds) (sym known.here) small in
    record {
      kind = c.go_on.ensures.kind ∙ known.kind;
      here = omega (arith, known.here, c.go_on.ensures.far);
      holds = next.holds;
      marked = marked_to kind c.args.last later set next (omega arith) (omega (arith, next.after));
      none = λ i low high. next.none i (omega (arith, small, known.here)) high;
    }

pub returns-then-place-room-clause-past : goal.returns-then-place-room-clause-past
returns-then-place-room-clause-past g c =
    let known = c.loop-place.invariant in
    let kind = g.W.Walk.kind c.args.walk in
    let past = c.args.after + length c.args.marks.now in
    let at = c.args.after + 1 + c.loop-place.place in
    let first : IsFirst kind past c.args.last at =
    record {
      after = omega (arith, c.loop-place-test.false, c.min-end.ensures, c.if-place-room.true);
      within = omega (arith, c.if-place-room.true);
      holds = subst (λ t. kind t ≡ true) known.here known.holds;
      none = λ i low high. known.none i low (omega (arith, known.here));
    } in
    least_past kind c.args.last past first (omega arith) first.after first.within

pub returns-clause-past : goal.returns-clause-past
returns-clause-past g c =
    let past = c.args.after + length c.args.marks.now in
    let none = λ (i : ℕ) (low : past < i) (high : i ≤ c.args.last).
    c.loop-place.invariant.none i low (omega (arith, c.loop-place.invariant.here, c.if-place-room.false)) in
    least_past_none (g.W.Walk.kind c.args.walk) c.args.last past past none (omega arith)
