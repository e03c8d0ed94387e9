use Rattle.std.proofs.Common.{◌∙◌}
use Rattle.task_tables.proofs.Texts.{text_told}
use Rattle.task_tables.proofs.fields.is_text.Goals as goal

pub returns : goal.returns
returns c = c.is_ok.ensures.value ∙ text_told c.args.field.now c.from_utf8.result _ _ c.from_utf8.ensures.cases
