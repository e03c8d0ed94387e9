use Rattle.std.proofs.Common.{sym, inl, inr, arith}
use Rattle.std.proofs.lemmas.Bool.{cases_lt}
use Rattle.findings.specs.Loads.{load_of}
use Rattle.findings.proofs.Exacts.{not_served}
use Rattle.findings.proofs.Walk.{reached, turns_once, pass, meets, meets_first, misses}
use Rattle.findings.proofs.loads.Load.first_rest.Goals as goal

pub loop-at-init : goal.loop-at-init
loop-at-init g c =
    let l = load_of c.args.self.now in
    let laws = g.met.B.Bound.lawful c.args.self.now.bound.now in
    record {
      low = c.requires.some;
      within = c.requires.within;
      none = λ i early. not_served l laws c.args.self.now.countable.stands i
          (omega (arith, c.requires.within, c.requires.near)) (c.requires.none i (omega arith) early);
    }

pub returns-then-is_rest : goal.returns-then-is_rest
returns-then-is_rest g c =
    let l = load_of c.args.self.now in
    sym (meets_first l c.args.last c.loop-at.at c.loop-at.invariant.low c.loop-at-test.true c.loop-at.invariant.none
    (sym c.if-is_rest.ensures))

pub returns-then-at-last : goal.returns-then-at-last
returns-then-at-last g c =
    let l = load_of c.args.self.now in
    let walked = reached l c.args.last c.loop-at.at c.loop-at-test.true c.loop-at.invariant.none
    (sym c.if-is_rest.ensures) in
    sym (misses l c.args.last (λ i some low. walked.none i (omega (arith, c.if-at-last.true))))

pub bisect-requires-clause-on : goal.bisect-requires-clause-on
bisect-requires-clause-on g c =
    let l = load_of c.args.self.now in
    let walked = reached l c.args.last c.loop-at.at c.loop-at-test.true c.loop-at.invariant.none
    (sym c.if-is_rest.ensures) in
    turns_once l c.args.last (g.met.B.Bound.lawful c.args.self.now.bound.now) c.args.self.now.countable.stands
    c.requires.near _ _ walked c.next_point-point.ensures

pub returns-then-is_rest-2 : goal.returns-then-is_rest-2
returns-then-is_rest-2 g c =
    let l = load_of c.args.self.now in
    let walked = reached l c.args.last c.loop-at.at c.loop-at-test.true c.loop-at.invariant.none
    (sym c.if-is_rest.ensures) in
    sym (meets l c.args.last c.loop-at.at _ _ walked c.next_point-point.ensures
    (sym c.if-is_rest-2.ensures) c.bisect.ensures)

pub loop-at-preserved : goal.loop-at-preserved
loop-at-preserved g c =
    let l = load_of c.args.self.now in
    let laws = g.met.B.Bound.lawful c.args.self.now.bound.now in
    let stands = c.args.self.now.countable.stands in
    let walked = reached l c.args.last c.loop-at.at c.loop-at-test.true c.loop-at.invariant.none
    (sym c.if-is_rest.ensures) in
    let past = pass l c.args.last laws stands c.requires.near _ _ walked c.next_point-point.ensures
    (sym c.if-is_rest-2.ensures) in
    record {
      low = omega (arith, c.skip-at.ensures.later);
      within = c.skip-at.ensures.within;
      none = λ i early. elim (cases_lt c.next_point-point.result i) [
        | inl after ↦ not_served l laws stands i (omega (arith, c.skip-at.ensures.within, c.requires.near))
            (c.skip-at.ensures.none i (omega arith) early)
        | inr before ↦ past.none i before
      ];
    }

pub returns : goal.returns
returns g c =
    sym (misses (load_of c.args.self.now) c.args.last
    (λ i some low. c.loop-at.invariant.none i (omega (arith, c.loop-at-test.false))))
