use Rattle.std.proofs.Common.{◌≡◌, ltb, length, map, ◌∙◌, subst, rules, arith}
use Rattle.std.proofs.lemmas.List.{take_all}
use Rattle.rows.specs.declared.tasks.Numbers.{Numbers}
use Rattle.rows.specs.declared.refusals.Refusal.TheVariants.{FullTable}
use Rattle.rows.specs.Answers.{Passes}
use Rattle.rows.specs.Judging.{plain, row_flaws, table_flaw_checks}
use Rattle.rows.specs.Times.{most_rows}
use Rattle.rows.proofs.Checks.{first_passes}
use Rattle.rows.proofs.Making.{all_made, not_refused}
use Rattle.rows.proofs.tables.judge_rows.Goals as goal

-- what a place past the table would hold
abbrev nothing : Numbers
nothing = record { work = 0; deadline = 0; period = 0; jitter = 0 }

pub unwrap-requires : goal.unwrap-requires
unwrap-requires c =
    let few = first_passes
    (ltb most_rows (length c.args.numbers.now)) FullTable 0 tt _ c.in_ok-check_table.ensures.answered in
    not_refused row_flaws c.args.numbers.now c.loop-row.row-index 0 nothing c.judge.result c.judge.ensures
    c.loop-row-test.true
    (subst (λ flaws. Passes (table_flaw_checks flaws c.args.numbers.now)) c.row_flaws.ensures few.1)

pub returns : goal.returns
returns c =
    let whole = take_all c.loop-row.row-index c.args.numbers.now (omega arith) in
    let are : map plain c.loop-row.rows.items ≡ c.args.numbers.now = c.loop-row.invariant ∙ whole in
    let made = all_made c.loop-row.rows.items c.args.numbers.now are in
    record { answered = search rules; made = made.0; rows = made.1 }
