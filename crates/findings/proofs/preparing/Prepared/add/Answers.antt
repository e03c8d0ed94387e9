use Rattle.std.proofs.Common.{◌≡◌, ◌+◌, ◌<◌, ◌++◌, ◌∷◌, [], false, length, map, replicate, slice_set, take, unwrap_or}
use Rattle.std.proofs.Common.{ap, sym, subst, ◌∙◌, arith}
use Rattle.std.proofs.lemmas.Grind.{take_at_read}
use Rattle.std.proofs.lemmas.List.{length-replicate, length-set, length-take-le}
use Rattle.std.proofs.lemmas.Option.{MatchOption-at_some}
use Rattle.findings.specs.Lines.{LiesUnder}
use Rattle.rows.specs.Times.{horizon}
use Rattle.bounds.specs.Answering.{corner_after}
use Rattle.findings.specs.Counting.{near, next_after}
use Rattle.findings.proofs.Blocks.{row_marked}
use Rattle.findings.proofs.Kept.{stand_more, put_next}
use Rattle.findings.proofs.preparing.Prepared.add.Goals as goal

pub returns : goal.returns
returns g c =
    let rows = c.args.rows.now in
    let place = c.args.place in
    let row = c.index-rows-place.result in
    let kept = c.requires.kept in
    let ticks = c.ticks-ticks.ensures.answered in
    let made = MatchOption-at_some _ _ c.unwrap.result c.unwrap.ensures c.new.ensures in
    let room : place < length c.args.self.now.rows =
    omega (arith, kept.size, c.requires.countable.few, c.requires.there) in
    let one : take (place + 1) rows ≡ take place rows ++ row ∷ [] =
    (take_at_read rows place row c.requires.there).1
    ∙ ap (λ x. take place rows ++ x ∷ []) (sym c.index-rows-place.is) in
    let line = c.with_row-self.result in
    let m = g.B.Bound.meaning c.args.bound.now in
    let clear = length-replicate near false in
    let past = c.mark-next.ensures.past ∙ ap (λ n. corner_after m row (0 + n)) (kept.marks.size ∙ clear) in
    let told = c.unwrap_or.ensures ∙ ap (λ o. unwrap_or o (horizon + 1)) past in
    let before : length (take place rows) ≡ place = length-take-le place rows (omega arith) in
    let after : length (take (place + 1) rows) ≡ place + 1 = length-take-le (place + 1) rows (omega arith) in
    let old : take place c.args.self.now.nexts ≡ map (next_after m near) (take place rows) =
    ap (λ n. take n c.args.self.now.nexts) (sym before) ∙ kept.ahead in
    let spot : place < length c.args.self.now.nexts =
    omega (arith, kept.places, c.requires.countable.few, c.requires.there) in
    record {
      size = length-set c.args.self.now.rows place c.unwrap.result ∙ kept.size;
      stand = stand_more c.args.frame.now.ticks rows c.args.self.now.rows place c.unwrap.result row kept.stand
          c.requires.there room (made.0 ∙ ticks) (made.1 ∙ c.index-rows-place.is);
      lies = subst (λ rs. LiesUnder c.args.frame.now.ticks rs line.slope line.height) (sym one)
          (subst (λ h. LiesUnder h (take place rows ++ row ∷ []) line.slope line.height) ticks
          (c.with_row-self.ensures (take place rows)
          (subst (λ h. LiesUnder h (take place rows) c.args.self.now.line.slope c.args.self.now.line.height) (sym ticks)
          kept.lies)));
      marks = row_marked m rows place 0 row (replicate near false) c.args.self.now.flags c.requires.there
          c.index-rows-place.is (omega (arith, clear)) kept.marks c.mark-next.new.marks c.mark-next.ensures.marks;
      places = length-set c.args.self.now.nexts place c.unwrap_or.result ∙ kept.places;
      ahead = ap (λ n. take n (slice_set c.args.self.now.nexts place c.unwrap_or.result)) after
          ∙ put_next (next_after m near) rows c.args.self.now.nexts place c.unwrap_or.result row old c.requires.there
          spot
          (told ∙ ap (next_after m near) c.index-rows-place.is);
    }
