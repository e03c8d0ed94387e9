use Rattle.std.proofs.Common.{map}
use Rattle.std.proofs.lemmas.Result.{err_from_is_err_and}
use Rattle.csv.specs.Records.{fields_of}
use Rattle.task_tables.proofs.NoTables.{no_rows, no_table, rows_are}
use Rattle.task_tables.proofs.Taken.{none_told}
use Rattle.task_tables.proofs.Tellings.{tells, tells_of}
use Rattle.task_tables.proofs.reading.read_text.Goals as goal

pub returns-in_err-table-clause-refused : goal.returns-in_err-table-clause-refused
returns-in_err-table-clause-refused c =
    let p = err_from_is_err_and c.from_residual-in_err-table.result c.from_residual-in_err-table.ensures.1 in
    let own = rows_are c.args.text.now _ c.of-form.result
    (map fields_of c.as_slice.result.now) c.of-form.ensures c.without_mark-text.ensures
    (rw c.as_slice.ensures.value c.in_ok-records.ensures.records) in
    rw (p.1, p.2) (λ misread. no_table c.args.text.now _ own (c.in_err-table.ensures.refused misread))

pub returns-in_err-table-clause-told : goal.returns-in_err-table-clause-told
returns-in_err-table-clause-told c =
    let p = err_from_is_err_and c.from_residual-in_err-table.result c.from_residual-in_err-table.ensures.1 in
    let own = rows_are c.args.text.now _ c.of-form.result
    (map fields_of c.as_slice.result.now) c.of-form.ensures c.without_mark-text.ensures
    (rw c.as_slice.ensures.value c.in_ok-records.ensures.records) in
    rw (p.1, p.2) (tells_of c.args.text.now _ _ _ c.without_mark-text.ensures own c.in_err-table.ensures.told)

pub returns-clause-refused : goal.returns-clause-refused
returns-clause-refused c misread =
    let own = rows_are c.args.text.now _ c.of-form.result
    (map fields_of c.as_slice.result.now) c.of-form.ensures c.without_mark-text.ensures
    (rw c.as_slice.ensures.value c.in_ok-records.ensures.records) in
    no_table c.args.text.now _ own (no_rows _ (rw c.in-None.is at c.in_ok-table.ensures.read))

pub returns-clause-told : goal.returns-clause-told
returns-clause-told c =
    let own = rows_are c.args.text.now _ c.of-form.result
    (map fields_of c.as_slice.result.now) c.of-form.ensures c.without_mark-text.ensures
    (rw c.as_slice.ensures.value c.in_ok-records.ensures.records) in
    let first = none_told c.without_mark-text.result.now _ (rw c.in-None.is at c.in_ok-table.ensures.read) in
    tells_of c.args.text.now _ _ _ c.without_mark-text.ensures own
    (tells _ _ c.in_ok-no_heading-in-None.field-0 _ first c.in_ok-no_heading-in-None.ensures c.into.ensures)
