use Rattle.std.proofs.Common.{◌≡◌, Bor, List, ℕ, [], ◌∷◌, true, false, sym, ap, ◌∙◌, rules, arith}
use Rattle.std.specs.Result.{is_ok}
use Rattle.std.proofs.lemmas.List.{map-append}
use Rattle.csv.specs.Records.{fields_of}
use Rattle.task_tables.specs.Fields.{trimmed}
use Rattle.task_tables.specs.Forms.{counts}
use Rattle.task_tables.proofs.Rows.{field_there, grown, kept}
use Rattle.task_tables.proofs.forms.FieldsForm.fields.Goals as goal
use Rattle.task_tables.proofs.forms.FieldsForm.fields.Goals.{in-Some+then-counts+in_ok-push, in-Some+else-counts}
use Rattle.task_tables.proofs.forms.FieldsForm.fields.Goals.{in_default}

pub loop-index-preserved : goal.loop-index-preserved
loop-index-preserved c =
    elim c.match-get.branch [
      | in-Some+then-counts+in_ok-push w ↦
          let good : is_ok w.push.result ≡ true = search rules in
          let items = rw good at w.push.ensures.items in
          let counted : counts c.args.self (trimmed w.in-Some.field.now) ≡ true =
          ap (counts c.args.self) (sym w.trimmed-field.ensures) ∙ sym w.counts.ensures ∙ w.if-counts.true in
          rw (
            w.fields-is,
            items,
            map-append (λ (f : Bor (List ℕ)). f.now) c.loop-index.fields.items (w.trimmed-field.result ∷ []),
            w.trimmed-field.ensures,
          )
          (grown c.args.self (fields_of c.args.row.now) c.loop-index.index w.in-Some.field.now _ c.loop-index.invariant
          (sym w.in-Some.ensures.value) counted)
      | in-Some+else-counts w ↦
          let counted : counts c.args.self (trimmed w.in-Some.field.now) ≡ false =
          ap (counts c.args.self) (sym w.trimmed-field.ensures) ∙ sym w.counts.ensures ∙ w.if-counts.false in
          rw w.fields-is
          (kept c.args.self
          (fields_of c.args.row.now) c.loop-index.index w.in-Some.field.now _ c.loop-index.invariant
          (sym w.in-Some.ensures.value) counted)
      | in_default w ↦ absurd (field_there (fields_of c.args.row.now) c.loop-index.index (omega arith) (search rules))
    ]
