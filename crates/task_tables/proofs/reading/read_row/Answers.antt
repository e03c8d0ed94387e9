use Rattle.std.proofs.Common.{subst, sym, ◌∙◌}
use Rattle.std.proofs.lemmas.Result.{err_from_is_err_and}
use Rattle.task_tables.specs.Columns.{IsHeading}
use Rattle.task_tables.specs.Rows.{row_at}
use Rattle.task_tables.proofs.NoTables.{no_first, no_next}
use Rattle.task_tables.proofs.ReadRows.{first_row, next_row}
use Rattle.task_tables.proofs.Taken.{first_taken, first_told, next_taken, next_told, tells_more}
use Rattle.task_tables.proofs.reading.read_row.Goals as goal

pub returns-in_ok-take-in-Some-clause-read : goal.returns-in_ok-take-in-Some-clause-read
returns-in_ok-take-in-Some-clause-read c rows read =
    next_row _ _ _ rows (rw c.in-Some.is at read) c.in_ok-take-in-Some.ensures.task

pub returns-in_ok-take-in-Some-clause-taken : goal.returns-in_ok-take-in-Some-clause-taken
returns-in_ok-take-in-Some-clause-taken c rows taken =
    next_taken _ _ _ rows (rw c.in-Some.is at taken) c.in_ok-take-in-Some.ensures.task c.in_ok-take-in-Some.ensures.none

pub returns-in_ok-columns-in-None-clause-read : goal.returns-in_ok-columns-in-None-clause-read
returns-in_ok-columns-in-None-clause-read c rows read =
    let row = row_at c.args.line c.args.fields.now in
    first_row _ row rows
    (subst (λ cs. IsHeading row.fields cs) (sym c.new.ensures.columns) c.in_ok-columns-in-None.ensures.columns)
    c.new.ensures.numbers c.new.ensures.names c.new.ensures.lines (rw c.in-None.is at read)

pub returns-in_ok-columns-in-None-clause-taken : goal.returns-in_ok-columns-in-None-clause-taken
returns-in_ok-columns-in-None-clause-taken c rows taken =
    let row = row_at c.args.line c.args.fields.now in
    first_taken _ row rows
    (subst (λ cs. IsHeading row.fields cs) (sym c.new.ensures.columns) c.in_ok-columns-in-None.ensures.columns)
    (c.new.ensures.columns ∙ c.in_ok-columns-in-None.ensures.same) c.in_ok-columns-in-None.ensures.none
    c.new.ensures.numbers (rw c.in-None.is at taken)

pub returns-in_err-take-in-Some-clause-refused : goal.returns-in_err-take-in-Some-clause-refused
returns-in_err-take-in-Some-clause-refused c =
    let p = err_from_is_err_and c.from_residual.result c.from_residual.ensures.1 in
    rw (p.1, p.2)
    (λ misread rows rest read.
    no_next _ _ rows rest (c.in_err-take-in-Some.ensures.refused misread) (rw c.in-Some.is at read))

pub returns-in_err-take-in-Some-clause-told : goal.returns-in_err-take-in-Some-clause-told
returns-in_err-take-in-Some-clause-told c =
    let p = err_from_is_err_and c.from_residual.result c.from_residual.ensures.1 in
    rw (p.1, p.2) (λ text rows rest taken.
    let had = rw c.in-Some.is at taken in
    tells_more _ _ _ (λ t some. next_told text _ _ rows rest t had some)
    (c.in_err-take-in-Some.ensures.told had.numbers))

pub returns-in_err-columns-in-None-clause-refused : goal.returns-in_err-columns-in-None-clause-refused
returns-in_err-columns-in-None-clause-refused c =
    let p = err_from_is_err_and c.from_residual-in_err-columns-in-None.result
    c.from_residual-in_err-columns-in-None.ensures.1 in
    rw (p.1, p.2)
    (λ misread rows rest read.
    no_first _ rows rest (c.in_err-columns-in-None.ensures.refused misread) (rw c.in-None.is at read))

pub returns-in_err-columns-in-None-clause-told : goal.returns-in_err-columns-in-None-clause-told
returns-in_err-columns-in-None-clause-told c =
    let p = err_from_is_err_and c.from_residual-in_err-columns-in-None.result
    c.from_residual-in_err-columns-in-None.ensures.1 in
    rw (p.1, p.2) (λ text rows rest taken.
    tells_more _ _ _
    (λ t some. first_told text (row_at c.args.line c.args.fields.now) rows rest t (rw c.in-None.is at taken) some)
    c.in_err-columns-in-None.ensures.told)
