use Rattle.std.proofs.Common.{map, Some, None, ap, ◌∙◌}
use Rattle.leaves.specs.declared.entries.Entry.TheVariants.{Row as entry}
use Rattle.rows.specs.Lists.{at_rank}
use Rattle.reading.proofs.Ranks.{rows_of_size}
use Rattle.reading.proofs.Told.{row_told, judged_again}
use Rattle.reading.proofs.held.Leaf.row.Goals as goal

pub returns-in_err-body : goal.returns-in_err-body
returns-in_err-body c = λ held holds.
    rw c.from_residual.ensures
    (row_told None c.args.rank held.rows
    (c.in_err-body.ensures.body (map entry held.rows) (rows_of_size held.rows) holds.rows))

pub returns : goal.returns
returns c = λ held holds.
    let told = row_told (Some c.in_ok-body.body.now) c.args.rank held.rows
    (c.in_ok-body.ensures.body (map entry held.rows) (rows_of_size held.rows) holds.rows) in
    let is = ap Some c.row_fields.ensures.answered ∙ told in
    rw c.ok.ensures.value
    (judged_again (at_rank c.args.rank held.rows) c.row_fields.result c.judge.result is c.judge.ensures)
