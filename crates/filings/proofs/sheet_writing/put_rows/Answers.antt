use Rattle.std.proofs.Common.{◌≡◌, ◌+◌, ◌<◌, ◌++◌, ◌∷◌, [], true, sym, ap, ◌∙◌, length, take, get_or, arith}
use Rattle.std.proofs.lemmas.List.{length-take-le, take_more}
use Rattle.rows.specs.Counting.{is_on_frame}
use Rattle.writing.specs.Filing.{none}
use Rattle.filings.proofs.Written.{row_taken, rows_taken}
use Rattle.filings.proofs.sheet_writing.put_rows.Goals as goal

pub loop-row-init : goal.loop-row-init
loop-row-init c = none

pub unwrap-requires : goal.unwrap-requires
unwrap-requires c =
    let i = c.loop-row.row-index in
    let rows = c.args.table.now.rows in
    let row = c.row-item.result in
    let within : i < length rows = omega (arith, c.loop-row-test.true, ap length c.rows-row-items.ensures.answered) in
    let here : row ≡ get_or rows i row = c.row-item.is ∙ ap (λ rs. get_or rs i row) c.rows-row-items.ensures.answered in
    let on : is_on_frame c.args.table.now.frame.ticks row ≡ true =
    ap (is_on_frame c.args.table.now.frame.ticks) here ∙ c.rows-row-items.ensures.judged.on i row within in
    row_taken (take i rows) c.requires.empty c.loop-row.invariant row c.row.result c.row.ensures.answered
    (omega (arith, length-take-le i rows, within, c.rows-row-items.ensures.judged.few))
    (ap (λ h. is_on_frame h.ticks row) c.requires.frame ∙ on)
    (omega (arith, length-take-le i rows, within, c.requires.room))

pub loop-row-preserved : goal.loop-row-preserved
loop-row-preserved c =
    let i = c.loop-row.row-index in
    let rows = c.args.table.now.rows in
    let row = c.row-item.result in
    let within : i < length rows = omega (arith, c.loop-row-test.true, ap length c.rows-row-items.ensures.answered) in
    let here : row ≡ get_or rows i row = c.row-item.is ∙ ap (λ rs. get_or rs i row) c.rows-row-items.ensures.answered in
    rows_taken (take i rows) c.requires.empty c.loop-row.invariant row
    (take (i + 1) rows) c.row.result c.unwrap.result c.unwrap.ensures c.row.ensures.filed
    (take_more rows i row within ∙ ap (λ r. take i rows ++ r ∷ []) (sym here))
