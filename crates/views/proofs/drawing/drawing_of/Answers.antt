use Rattle.std.proofs.Common.{◌≡◌, ◌+◌, ◌-◌, ◌<◌, ◌++◌, ◌∷◌, [], length, map, take, get_or, slice_index_or, sym}
use Rattle.std.proofs.Common.{ap, ap₂, ◌∙◌, subst, arith}
use Rattle.std.proofs.lemmas.List.{take_more}
use Rattle.std.proofs.lemmas.Result.{IfOk-at_ok}
use Rattle.rows.specs.Answers.{Passes}
use Rattle.rows.specs.Books.{IsJudged, book}
use Rattle.rows.proofs.Checks.{is_answered}
use Rattle.bounds.specs.Supplied.{exact_steps}
use Rattle.bounds.specs.Families.{family_meaning}
use Rattle.bounds.specs.Meaning.{Meaning}
use Rattle.findings.specs.Asking.{question_checks}
use Rattle.findings.specs.Demand.{Load, load}
use Rattle.findings.proofs.OnFrame.{can_ask}
use Rattle.plots.specs.Drawn.{drawn_row}
use Rattle.task_tables.specs.Tables.{table_names}
use Rattle.views.proofs.Drawn.{loads_plain}
use Rattle.views.proofs.drawing.drawing_of.Goals as goal

pub unwrap-requires : goal.unwrap-requires
unwrap-requires c =
    let f = c.args.counted.now in
    let row = c.index-rows-rank.result in
    let place = c.args.rank - 1 in
    let rows : c.rows.result.now ≡ f.rows = c.rows.ensures.answered ∙ ap (λ x. x.rows) c.exact.ensures in
    let judged : IsJudged (book f.frame f.rows) =
    subst (λ x. IsJudged (book x.frame x.rows)) c.exact.ensures c.rows.ensures.judged in
    let stands : row ≡ get_or f.rows place row = c.index-rows-rank.is ∙ ap (λ rs. get_or rs place row) rows in
    let asked : Passes (question_checks row (book f.frame (take place f.rows))) =
    can_ask (book f.frame f.rows) place row judged (omega (arith, c.requires.rank)) stands in
    is_answered (λ d. tt) (question_checks row c.args.above.now) tt c.of.result
    (subst (λ b. Passes (question_checks row b)) (sym c.requires.above) asked) c.of.ensures.answered

pub returns : goal.returns
returns c =
    let f = c.args.counted.now in
    let row = c.index-rows-rank.result in
    let place = c.args.rank - 1 in
    let rows : c.rows.result.now ≡ f.rows = c.rows.ensures.answered ∙ ap (λ x. x.rows) c.exact.ensures in
    let stands : row ≡ get_or f.rows place row = c.index-rows-rank.is ∙ ap (λ rs. get_or rs place row) rows in
    let within : place < length f.rows = omega (arith, c.requires.rank) in
    let up : c.args.rank ≡ place + 1 = omega (arith, c.requires.rank) in
    let d = c.unwrap.result in
    let shown = IfOk-at_ok _ c.unwrap.ensures c.of.ensures.shown in
    let drawn : drawn_row d ≡ row = IfOk-at_ok _ c.unwrap.ensures c.of.ensures.row in
    let exact = IfOk-at_ok _ c.unwrap.ensures c.of.ensures.exact in
    let bounded = IfOk-at_ok _ c.unwrap.ensures c.of.ensures.bounded in
    let by : Meaning → Load = λ m. load m c.args.above.now.frame.ticks row.work c.args.above.now.rows in
    let plain = loads_plain by c.args.bounds.now
    ∙ ap (map (λ b. by (family_meaning b.0 b.1))) c.requires.bounds in
    record {
      ranked = shown.1;
      named = shown.2 ∙ c.name.ensures.name (omega (arith, c.requires.rank))
          ∙ ap (λ t. slice_index_or (table_names t) place []) c.task_table.ensures;
      row = ap (λ n. take n f.rows) up ∙ take_more f.rows place row within
          ∙ ap (λ r. take place f.rows ++ r ∷ []) (sym stands ∙ sym drawn);
      exact = exact ∙ ap₂ (λ b r. load exact_steps b.frame.ticks r.work b.rows) c.requires.above (sym drawn);
      bounded = bounded ∙ plain
          ∙ ap₂ (λ b r. map (λ x. load (family_meaning x.0 x.1) b.frame.ticks r.work b.rows) f.bounds)
          c.requires.above (sym drawn);
    }
