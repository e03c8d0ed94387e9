use Rattle.std.proofs.Common.{◌≡◌, Bor, List, ℕ, None, sym, ◌∙◌, arith}
use Rattle.std.proofs.lemmas.List.{length-map}
use Rattle.task_tables.specs.Rows.{row_at}
use Rattle.task_tables.specs.Told.{misfit_told}
use Rattle.task_tables.proofs.Fits.{other_count}
use Rattle.task_tables.proofs.Tellings.{told_fit, told_fitting, told_misfit}
use Rattle.task_tables.proofs.tasks.misread.Goals as goal
use Rattle.task_tables.proofs.tasks.misread.Goals.{then-fields-columns+else-loop-index-test, else-fields-columns}

pub loop-index-preserved : goal.loop-index-preserved
loop-index-preserved c =
    c.loop-index.invariant
    ∙ told_fit c.args.columns.now
    (row_at c.args.line c.args.fields.now) c.args.columns.now c.args.fields.now c.loop-index.index _ _ (omega arith)
    (omega arith) (sym c.fits.ensures ∙ c.if-not-fits.false)

pub returns-then-not-fits : goal.returns-then-not-fits
returns-then-not-fits c =
    let some = c.loop-index.invariant
    ∙ told_misfit c.args.columns.now
    (row_at c.args.line c.args.fields.now) c.args.columns.now c.args.fields.now c.loop-index.index _ _ (omega arith)
    (omega arith) (sym c.fits.ensures ∙ c.if-not-fits.true) in
    rw some c.misfit.ensures

pub returns : goal.returns
returns c =
    let none : misfit_told c.args.columns.now (row_at c.args.line c.args.fields.now) ≡ None =
    elim c.if-fields-columns.branch [
      | then-fields-columns+else-loop-index-test w ↦
          w.loop-index.invariant
          ∙ told_fitting c.args.columns.now
          (row_at c.args.line c.args.fields.now) _ c.args.columns.now _ w.loop-index.index (omega arith)
      | else-fields-columns w ↦
          let size = length-map c.args.fields.now (λ (f : Bor (List ℕ)). f.now) in
          other_count c.args.columns.now (row_at c.args.line c.args.fields.now)
          (λ e. w.if-fields-columns.false (sym size ∙ e))
    ] in
    rw none c.at_line.ensures
