use Rattle.std.proofs.Common.{rules, tests}
use Rattle.std.proofs.lemmas.Iterator.Search.{find_from_yields_List}
use Rattle.std.proofs.lemmas.Iterator.Splits.{YieldsList-from_slice_split}
use Rattle.task_tables.specs.Forms.{decides, is_line_end}
use Rattle.task_tables.proofs.forms.deciding_line.Goals as goal

pub returns : goal.returns
returns c =
    find_from_yields_List decides _ _ _ c.find.ensures.ran
    (YieldsList-from_slice_split _ is_line_end c.args.text.now c.split.ensures.rest c.split.ensures.done
    c.split.ensures.closure (λ x b q k. search (rules, tests)))
    (λ x b q k. search (rules, tests))
