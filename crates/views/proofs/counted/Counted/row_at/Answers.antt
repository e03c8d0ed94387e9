use Rattle.std.proofs.Common.{◌≡◌, ◌+◌, ◌-◌, ◌<◌, [], length, map, Some, sym, ap, ◌∙◌, arith, slice_index_or}
use Rattle.std.specs.Prelude.{slice_get}
use Rattle.std.proofs.lemmas.Result.{IfOk-weaker}
use Rattle.rows.specs.Judging.{plain}
use Rattle.rows.specs.Found.{tells}
use Rattle.filings.specs.Filings.{filed_findings}
use Rattle.task_tables.specs.Tables.{table_names}
use Rattle.views.specs.Counted.{by_bounds, in_exact_steps}
use Rattle.views.specs.Printed.{found_at}
use Rattle.views.proofs.Counts.{at_place, findings_even, told_is}
use Rattle.views.proofs.counted.Counted.row_at.Goals as goal

pub bounds-exact-i : goal.bounds-exact-i
bounds-exact-i c =
    let f = in_exact_steps c.args.self.now in
    omega (
      arith,
      c.requires,
      findings_even f c.findings-exact.result.now (c.findings-exact.ensures ∙ ap filed_findings c.exact-2.ensures),
    )

pub returns : goal.returns
returns c =
    let i = c.args.i in
    let t = c.args.self.now in
    let f = in_exact_steps t in
    let place : i + 1 - 1 ≡ i = omega arith in
    let rows : c.rows-rows.result.now ≡ t.rows = c.rows-rows.ensures.answered ∙ ap (λ x. x.rows) c.exact.ensures in
    let exact : map tells c.findings-exact.result.now ≡ filed_findings f =
    c.findings-exact.ensures ∙ ap filed_findings c.exact-2.ensures in
    let within : i < length c.rows-rows.result.now = omega (arith, c.requires, ap length rows) in
    let in_exact : i < length c.findings-exact.result.now =
    omega (arith, c.requires, findings_even f c.findings-exact.result.now exact) in
    let named = c.name.ensures.name (omega arith)
    ∙ ap (λ k. slice_index_or (table_names c.task_table.result.now) k []) place
    ∙ ap (λ t. slice_index_or (table_names t) i []) c.task_table.ensures in
    let row = ap (λ rs. slice_get (map plain rs) i) (sym rows)
    ∙ at_place plain c.rows-rows.result.now i c.index-rows-i.result within
    ∙ ap (λ r. Some (plain r)) (sym c.index-rows-i.is) in
    let one = ap (λ fs. slice_get fs i) (sym exact) ∙ at_place tells c.findings-exact.result.now i _ in_exact in
    let found : map tells c.deref.result.now ≡ found_at i (by_bounds t) =
    ap (map tells) c.deref.ensures.value ∙ c.in_ok-bounded.ensures in
    IfOk-weaker c.counted_row.result _ _
    (λ cells told. told ∙ told_is i t c.name.result.now _ _ _ named row one found)
    c.counted_row.ensures
