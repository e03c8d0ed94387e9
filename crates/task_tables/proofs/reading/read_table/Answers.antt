use Rattle.std.proofs.Common.{◌≤◌, Bor, List, ℕ, map, length, refl, sym, ap, subst, ◌∙◌, arith}
use Rattle.std.proofs.lemmas.List.{take_all}
use Rattle.std.proofs.lemmas.Result.{err_from_is_err_and}
use Rattle.csv.specs.Records.{Row as Record, fields_of}
use Rattle.task_tables.specs.Forms.{config_of, fields_in}
use Rattle.task_tables.specs.Lines.{behind, behind_one, line_of}
use Rattle.task_tables.specs.Rows.{lined, row_at, rows_in}
use Rattle.task_tables.specs.Tables.{AreRead}
use Rattle.task_tables.specs.Told.{AreTaken}
use Rattle.task_tables.proofs.Behind.{behind_next}
use Rattle.task_tables.proofs.ReadRows.{row_blank, row_said, rows_around, says_any}
use Rattle.task_tables.proofs.reading.read_table.Goals as goal
use Rattle.task_tables.proofs.reading.read_table.Goals.{then-says+in_ok-read_row, else-says}

pub loop-record-init : goal.loop-record-init
unfolding behind lined
loop-record-init c = record { left = refl; within = omega arith; read = refl; taken = refl }

pub loop-record-preserved : goal.loop-record-preserved
loop-record-preserved c =
    let inv = c.loop-record.invariant in
    let cfg = config_of c.args.form in
    let text = c.args.text.now in
    let i = c.loop-record.record-index in
    let fields = map (λ (f : Bor (List ℕ)). f.now) c.as_slice-row.result.now in
    let asked = says_any c.as_slice-row.result.now ∙ sym c.says.ensures in
    let read = ap (map (λ (f : Bor (List ℕ)). f.now)) c.as_slice-row.ensures.value ∙ c.in_ok-fields.ensures
    ∙ ap (λ (r : Record). fields_in c.args.form (fields_of r)) c.record-item.is in
    let left = c.behind_one-left.ensures.left ∙ ap (behind_one cfg) inv.left ∙ sym (behind_next cfg text i) in
    let within : length c.behind_one-left.result.now ≤ length text =
    omega (arith, c.behind_one-left.ensures.shorter, inv.within) in
    elim c.if-says.branch [
      | then-says+in_ok-read_row w ↦
          let row = row_at w.line_of-line.result c.as_slice-row.result.now in
          let line = w.line_of-line.ensures ∙ ap (line_of text) inv.left in
          let more = row_said c.args.form text c.args.records.now i c.record-item.result row (omega arith) line read
          (asked ∙ w.if-says.true) in
          rw w.table-is (record {
            left = left;
            within = within;
            read = rw more (w.in_ok-read_row.ensures.read _ inv.read);
            taken = rw more (w.in_ok-read_row.ensures.taken _ inv.taken);
          })
      | else-says w ↦
          let same = row_blank c.args.form text c.args.records.now i c.record-item.result fields (omega arith) read
          (asked ∙ w.if-says.false) in
          rw w.table-is (record {
            left = left;
            within = within;
            read = subst (λ rs. AreRead rs c.loop-record.table) (sym same) inv.read;
            taken = subst (λ rs. AreTaken rs c.loop-record.table) (sym same) inv.taken;
          })
    ]

pub returns-in_err-read_row-clause-refused : goal.returns-in_err-read_row-clause-refused
returns-in_err-read_row-clause-refused c =
    let inv = c.loop-record.invariant in
    let asked = says_any c.as_slice-row.result.now ∙ sym c.says.ensures in
    let read = ap (map (λ (f : Bor (List ℕ)). f.now)) c.as_slice-row.ensures.value ∙ c.in_ok-fields.ensures
    ∙ ap (λ (r : Record). fields_in c.args.form (fields_of r)) c.record-item.is in
    let row = row_at c.line_of-line.result c.as_slice-row.result.now in
    let line = c.line_of-line.ensures ∙ ap (line_of c.args.text.now) inv.left in
    let around = rows_around c.args.form c.args.text.now c.args.records.now c.loop-record.record-index
    c.record-item.result row (omega arith) line read (asked ∙ c.if-says.true) in
    let p = err_from_is_err_and c.from_residual-in_err-read_row.result c.from_residual-in_err-read_row.ensures.1 in
    rw (p.1, p.2) (λ misread. rw around (c.in_err-read_row.ensures.refused misread _ _ inv.read))

pub returns-in_err-read_row-clause-told : goal.returns-in_err-read_row-clause-told
returns-in_err-read_row-clause-told c =
    let inv = c.loop-record.invariant in
    let asked = says_any c.as_slice-row.result.now ∙ sym c.says.ensures in
    let read = ap (map (λ (f : Bor (List ℕ)). f.now)) c.as_slice-row.ensures.value ∙ c.in_ok-fields.ensures
    ∙ ap (λ (r : Record). fields_in c.args.form (fields_of r)) c.record-item.is in
    let row = row_at c.line_of-line.result c.as_slice-row.result.now in
    let line = c.line_of-line.ensures ∙ ap (line_of c.args.text.now) inv.left in
    let around = rows_around c.args.form c.args.text.now c.args.records.now c.loop-record.record-index
    c.record-item.result row (omega arith) line read (asked ∙ c.if-says.true) in
    let p = err_from_is_err_and c.from_residual-in_err-read_row.result c.from_residual-in_err-read_row.ensures.1 in
    rw (p.1, p.2) (rw around (c.in_err-read_row.ensures.told c.args.text.now _ _ inv.taken))

pub returns-clause-read : goal.returns-clause-read
returns-clause-read c =
    subst (λ rs. AreRead (rows_in c.args.form c.args.text.now (map fields_of rs)) c.loop-record.table)
    (take_all c.loop-record.record-index c.args.records.now (omega arith)) c.loop-record.invariant.read
