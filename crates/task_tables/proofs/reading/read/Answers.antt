use Rattle.std.proofs.lemmas.Result.{IfErr-weaker}
use Rattle.task_tables.proofs.NoTables.{may_hold}
use Rattle.task_tables.proofs.Tellings.{tells_of_all}
use Rattle.task_tables.proofs.reading.read.Goals as goal

pub returns-clause-refused : goal.returns-clause-refused
returns-clause-refused g c =
    let text = c.as_slice.result.now in
    let all = may_hold _ _ _ c.new-text.ensures.items c.in_ok-read_to_end.ensures.bytes in
    IfErr-weaker c.read_text.result _ _
    (λ e none misread. record { bytes = text; all = rw c.as_slice.ensures.value all; none = none misread })
    c.read_text.ensures.refused

pub returns-clause-told : goal.returns-clause-told
returns-clause-told g c =
    let text = c.as_slice.result.now in
    let all = may_hold _ _ _ c.new-text.ensures.items c.in_ok-read_to_end.ensures.bytes in
    IfErr-weaker c.read_text.result _ _
    (λ e told. tells_of_all _ text e (rw c.as_slice.ensures.value all) told) c.read_text.ensures.told
