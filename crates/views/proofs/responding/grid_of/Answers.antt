use Rattle.std.proofs.Common.{rules, ◌≡◌, ◌+◌, ◌-◌, ◌<◌, [], length, ap, ◌∙◌, arith, slice_index_or}
use Rattle.task_tables.specs.Tables.{table_names, table_numbers}
use Rattle.views.proofs.Responded.{told_next}
use Rattle.views.proofs.responding.grid_of.Goals as goal

pub loop-i-preserved : goal.loop-i-preserved
loop-i-preserved c =
    let names = table_names c.args.table.now in
    let ns = table_numbers c.args.table.now in
    let os = c.args.responses.now in
    let i = c.loop-i.i in
    let within : i < length os = omega (arith, c.loop-i-test.true) in
    let stands : i < length ns = omega (arith, within, c.requires) in
    let place : i + 1 - 1 ≡ i = omega arith in
    let named = c.name.ensures.name (omega arith) ∙ ap (λ k. slice_index_or names k []) place in
    record {
      headings = search rules;
      rows =
          told_next names c.name.result.now i ns c.numbers.result.now os c.loop-i.grid.rows.items
          c.push.new.self.rows.items
          c.in_ok-row_of.field-0 _ _ stands within named c.numbers.ensures.numbers c.loop-i.invariant.rows
          c.in_ok-row_of.ensures c.in_ok-push.ensures.ok;
    }
