use Rattle.std.proofs.Common.{◌≡◌, Some, None, false, length, rules}
use Rattle.std.specs.Prelude.{◌⊎◌, nat_le}
use Rattle.std.specs.Str.{IsUtf8}
use Rattle.task_tables.specs.Rows.{row_at}
use Rattle.task_tables.specs.Tables.{table_columns, table_numbers}
use Rattle.task_tables.specs.Tasks.{name_of, numbers_of}
use Rattle.task_tables.proofs.Fits.{cannot_told, has_room, taken_told}
use Rattle.task_tables.proofs.Tellings.{tells_some}
use Rattle.task_tables.proofs.tables.TaskTable.take.Goals as goal

pub returns-in_default-clause-told : goal.returns-in_default-clause-told
returns-in_default-clause-told c has =
    let columns = table_columns c.args.self.now in
    let row = row_at c.args.line c.args.fields.now in
    let cannot : (numbers_of columns row.fields ≡ None) ⊎ (¬ (IsUtf8 (name_of columns row.fields))) = search rules in
    let room : nat_le 32 (length (table_numbers c.args.self.now)) ≡ false = has_room _ (search rules) in
    tells_some _ _ _ c.in_ok-misread.field-0 _ (cannot_told columns _ row room has cannot)
    (rw c.as_slice-columns.ensures.value at c.in_ok-misread.ensures) c.into-in_default.ensures

pub returns-clause-none : goal.returns-clause-none
returns-clause-none c once =
    let columns = table_columns c.args.self.now in
    let row = row_at c.args.line c.args.fields.now in
    let some : numbers_of columns row.fields ≡ Some c.in-Some-Some.numbers = search rules in
    let text : IsUtf8 (name_of columns row.fields) = search rules in
    let room : nat_le 32 (length (table_numbers c.args.self.now)) ≡ false = has_room _ (search rules) in
    taken_told columns _ row _ room some text once
