use Rattle.std.proofs.Common.{◌≡◌, ◌+◌, ◌-◌, ◌<◌, [], ◌∷◌, ◌++◌, map, length, take, take_all, drop, refl, inl, inr, ap}
use Rattle.std.proofs.Common.{subst, sym, ◌∙◌, rules, arith}
use Rattle.std.proofs.lemmas.Bool.{cases_lt}
use Rattle.std.proofs.lemmas.Grind.{take_at_read}
use Rattle.std.proofs.lemmas.List.{length-drop, length-map, map-set}
use Rattle.std.proofs.lemmas.List.Edits.{paste_none}
use Rattle.std.proofs.Math.Seq.{paste}
use Rattle.rows.specs.Found.{tells}
use Rattle.findings.specs.Demand.{load}
use Rattle.findings.specs.Findings.{row_finding}
use Rattle.findings.specs.Loads.{load_of}
use Rattle.findings.specs.Prepared.{Prepares}
use Rattle.findings.specs.Served.{NoneServed, exact_of}
use Rattle.findings.specs.Tables.{findings_of}
use Rattle.findings.proofs.Exacts.{late_more, late_start}
use Rattle.findings.proofs.Tables.{length_findings_below, finding_at, put_more, put_all, stays_more, outside_end}
use Rattle.findings.proofs.recounting.fill.Goals as goal

pub loop-i-init : goal.loop-i-init
loop-i-init g c =
    let m = g.B.Bound.meaning c.args.bound.now in
    let rows = c.args.rows.now in
    let from = c.args.from in
    let new = drop from (findings_of m c.args.frame.now rows) in
    let first : take c.min.result rows ≡ take from rows = elim (cases_lt from (length rows)) [
      | inl low ↦ let e : c.min.result ≡ from = omega (arith, c.min.ensures) in ap (λ n. take n rows) e
      | inr high ↦ take_all _ _ (omega (arith, c.min.ensures)) ∙ sym (take_all _ _ high)
    ] in
    record {
      within = omega arith;
      put = let e : 0 ≡ from - from = omega arith in
          paste_none (map tells c.args.list.now) from new ∙ ap (paste (map tells c.args.list.now) from new) e;
      stay = λ k d outside. refl;
      kept = subst (λ rs. Prepares m c.args.frame.now.ticks rs c.keep.new.self) first c.keep.ensures;
      near = omega arith;
      late = λ w busy. late_start m c.args.frame.now.ticks (take from rows) w;
    }

pub reach-late-requires-clause-none : goal.reach-late-requires-clause-none
reach-late-requires-clause-none g c t from early =
    let m = g.B.Bound.meaning c.args.bound.now in
    let all : c.loop-i.i - 0 ≡ c.loop-i.i = omega arith in
    let own = c.index-rows-i.result.work in
    let loaded = c.new-load.ensures ∙ ap (λ n. load m c.args.frame.now.ticks own (take n c.args.rows.now)) all in
    subst (λ l. t < exact_of l t) (sym loaded)
    (c.loop-i.invariant.late own (omega arith) t from (omega (arith, c.min-in-loop-i.ensures)))

pub loop-i-preserved : goal.loop-i-preserved
loop-i-preserved g c =
    let m = g.B.Bound.meaning c.args.bound.now in
    let h = c.args.frame.now in
    let rows = c.args.rows.now in
    let old = map tells c.args.list.now in
    let from = c.args.from in
    let i = c.loop-i.i in
    let row = c.index-rows-i.result in
    let new = drop from (findings_of m h rows) in
    let f = tells c.search.result in
    let left : i - from < length new =
    omega (
      arith,
      length-drop from (findings_of m h rows),
      length_findings_below m h [] rows,
      c.loop-i-test.true,
    ) in
    let answered : f ≡ row_finding m h row (take (i - 0) rows) = search rules in
    let next = finding_at m h rows from i row f c.loop-i.auto.i c.loop-i-test.true c.index-rows-i.is answered in
    let room : i < length old = omega (arith, length-map c.args.list.now tells, c.requires.room, c.loop-i-test.true) in
    let all : i - 0 ≡ i = omega arith in
    let one : take (i + 1) rows ≡ take i rows ++ row ∷ [] =
    (take_at_read rows i row c.loop-i-test.true).1 ∙ ap (λ x. take i rows ++ x ∷ []) (sym c.index-rows-i.is) in
    let loaded : load_of c.new-load.result ≡ load m h.ticks row.work (take i rows) =
    c.new-load.ensures ∙ ap (λ n. load m h.ticks row.work (take n rows)) all in
    record {
      within = omega (arith, c.loop-i-test.true);
      put = map-set tells c.loop-i.list i c.search.result
          ∙ put_more old new from (map tells c.loop-i.list) i f c.loop-i.invariant.put c.loop-i.auto.i room left next;
      stay = stays_more c.args.list.now c.loop-i.list from i c.search.result c.loop-i.auto.i c.loop-i.invariant.stay;
      kept = c.add.ensures;
      near = omega (arith, c.reach-late.ensures.within, c.window-last.ensures);
      late = λ w busy.
          late_more m h.ticks (take i rows) row c.reach-late.result c.reach-late.ensures.some
          (subst (λ l. NoneServed l 0 c.reach-late.result) loaded c.reach-late.ensures.none) w busy (take (i + 1) rows)
          one;
    }

pub returns : goal.returns
returns g c =
    let m = g.B.Bound.meaning c.args.bound.now in
    let all = findings_of m c.args.frame.now c.args.rows.now in
    let whole : c.loop-i.i - c.args.from ≡ length (drop c.args.from all) =
    omega (
      arith,
      length-drop c.args.from all,
      length_findings_below m c.args.frame.now [] c.args.rows.now,
      c.loop-i.auto.i,
      c.loop-i-test.false,
    ) in
    record {
      filled = put_all _ (drop c.args.from all) c.args.from _ c.loop-i.i c.loop-i.invariant.put whole;
      stay = λ k d outside.
          c.loop-i.invariant.stay k d
          (outside_end c.args.from (length c.args.rows.now) c.loop-i.i k c.loop-i.invariant.within outside);
    }
