use Rattle.std.proofs.Common.{◌≡◌, map, take}
use Rattle.csv.specs.Records.{fields_of}
use Rattle.task_tables.specs.Forms.{fields_in}
use Rattle.task_tables.proofs.forms.FieldsForm.fields.Given as goal

abbrev pub invariant-loop-index : goal.invariant-loop-index
invariant-loop-index l = map (λ f. f.now) l.fields.items ≡ fields_in l.self (take l.index (fields_of l.row))
