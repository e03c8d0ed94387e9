use Rattle.std.proofs.Common.{◌≡◌, true, false, refl, sym, ap, ◌∙◌, rules, arith, ◌∷◌, [], length-append}
use Rattle.std.specs.Result.{is_ok}
use Rattle.task_tables.specs.Columns.{has_column}
use Rattle.task_tables.proofs.Distinct.{distinct_more, distinct_none, named_more}
use Rattle.task_tables.proofs.headings.read_headings.Goals as goal
use Rattle.task_tables.proofs.Named.{named_twice, unnamed}
use Rattle.task_tables.proofs.Tellings.{tells, told_again, told_behind, told_none}

pub loop-index-init : goal.loop-index-init
loop-index-init c =
    rw c.new-columns.ensures.items (record { named = refl; once = distinct_none; count = refl; told = refl })

pub loop-index-preserved : goal.loop-index-preserved
loop-index-preserved c =
    let good : is_ok c.push.result ≡ true = search rules in
    let items = rw good at c.push.ensures.items in
    let inv = c.loop-index.invariant in
    let cs = c.loop-index.columns.items in
    let hs = c.args.headings.now in
    let named = sym c.named.ensures ∙ c.in-Some.is in
    let new : has_column cs c.in-Some.column ≡ false =
    ap (λ cs. has_column cs c.in-Some.column) (sym c.as_slice.ensures.value) ∙ sym c.has.ensures ∙ c.if-has.false in
    let size = length-append cs (c.in-Some.column ∷ []) in
    rw items (record {
      named = named_more cs hs c.loop-index.index _ c.in-Some.column (omega arith) inv.named named;
      once = distinct_more cs c.in-Some.column inv.once new;
      count = omega (arith, inv.count);
      told = inv.told ∙ told_behind c.args.line cs hs c.loop-index.index _ c.in-Some.column (omega arith) named new;
    })

pub returns-in_default-clause-refused : goal.returns-in_default-clause-refused
returns-in_default-clause-refused c misread =
    unnamed c.args.headings.now c.loop-index.index _ (omega arith) (sym c.named.ensures ∙ c.in_default.is)

pub returns-in_default-clause-told : goal.returns-in_default-clause-told
returns-in_default-clause-told c =
    let inv = c.loop-index.invariant in
    let first = told_none c.args.line c.loop-index.columns.items c.args.headings.now c.loop-index.index _
    (omega arith) inv.count (sym c.named.ensures ∙ c.in_default.is) in
    tells _ _ c.in_ok-none.none _ (inv.told ∙ first) c.in_ok-none.ensures c.into.ensures

pub returns-then-has-clause-refused : goal.returns-then-has-clause-refused
returns-then-has-clause-refused c misread =
    let has : has_column c.loop-index.columns.items c.in-Some.column ≡ true =
    ap (λ cs. has_column cs c.in-Some.column) (sym c.as_slice.ensures.value) ∙ sym c.has.ensures ∙ c.if-has.true in
    named_twice c.args.headings.now c.loop-index.index _ c.loop-index.columns.items c.in-Some.column
    (omega arith) c.loop-index.invariant.named (sym c.named.ensures ∙ c.in-Some.is) has

pub returns-then-has-clause-told : goal.returns-then-has-clause-told
returns-then-has-clause-told c =
    let inv = c.loop-index.invariant in
    let has : has_column c.loop-index.columns.items c.in-Some.column ≡ true =
    ap (λ cs. has_column cs c.in-Some.column) (sym c.as_slice.ensures.value) ∙ sym c.has.ensures ∙ c.if-has.true in
    let first = told_again c.args.line c.loop-index.columns.items c.args.headings.now c.loop-index.index _
    c.in-Some.column (omega arith) inv.count (sym c.named.ensures ∙ c.in-Some.is) has in
    tells _ _ c.in_ok-again.again _ (inv.told ∙ first) c.in_ok-again.ensures c.into-then-has.ensures
