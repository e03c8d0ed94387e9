use Rattle.std.proofs.Common.{Bor, List, ℕ, map, ◌∙◌}
use Rattle.task_tables.proofs.Named.{columns_are, unnumbered}
use Rattle.task_tables.proofs.Tellings.{told_missing, told_whole, tells}
use Rattle.task_tables.proofs.headings.read_columns.Goals as goal

pub returns-in_ok-no_heading-in-Some-clause-refused : goal.returns-in_ok-no_heading-in-Some-clause-refused
returns-in_ok-no_heading-in-Some-clause-refused c misread =
    unnumbered (map (λ (h : Bor (List ℕ)). h.now) c.args.headings.now) c.as_slice.result.now
    (rw c.as_slice.ensures.value c.in_ok-columns.ensures.named) c.in-Some.ensures

pub returns-in_ok-no_heading-in-Some-clause-told : goal.returns-in_ok-no_heading-in-Some-clause-told
returns-in_ok-no_heading-in-Some-clause-told c =
    tells _ _ _ _
    (c.in_ok-columns.ensures.last
    ∙ told_missing c.args.line c.in_ok-columns.columns.items (rw c.as_slice.ensures.value at c.in-Some.ensures))
    c.in_ok-no_heading-in-Some.ensures c.into.ensures

pub returns-in-None-clause-same : goal.returns-in-None-clause-same
returns-in-None-clause-same c =
    columns_are (map (λ (h : Bor (List ℕ)). h.now) c.args.headings.now) c.in_ok-columns.columns.items
    c.in_ok-columns.ensures.named

pub returns-in-None-clause-none : goal.returns-in-None-clause-none
returns-in-None-clause-none c =
    c.in_ok-columns.ensures.last
    ∙ told_whole c.args.line c.in_ok-columns.columns.items (rw c.as_slice.ensures.value at c.in-None.ensures)
