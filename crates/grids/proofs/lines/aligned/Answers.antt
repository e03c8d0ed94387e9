use Rattle.std.proofs.Common.{◌≡◌, ◌++◌, ◌+◌, ◌<◌, ◌∙◌, ℕ, List, ap, sym, drop, get_or, length, append_assoc}
use Rattle.std.specs.Prelude.{flat_map}
use Rattle.std.proofs.lemmas.List.{at_drop_more}
use Rattle.grids.specs.Aligned.{line_text}
use Rattle.grids.specs.Shown.{shown_at}
use Rattle.std.proofs.lemmas.Fmt.{decimal_is_IsNumeral}
use Rattle.grids.proofs.lines.aligned.Goals as goal

-- one more line is written
line_more : {X : Type 0} (f : X → List ℕ) (xs : List X) (i : ℕ) (x : X) (text new total : List ℕ) → i < length xs
    → x ≡ get_or xs i x → new ≡ text ++ f x → text ++ flat_map f (drop i xs) ≡ total
    → new ++ flat_map f (drop (i + 1) xs) ≡ total
line_more f xs i x text new total below read put before =
    ap (λ (t : List ℕ). t ++ flat_map f (drop (i + 1) xs)) put
    ∙ append_assoc text (f x) (flat_map f (drop (i + 1) xs))
    ∙ ap (λ (y : _). text ++ (f y ++ flat_map f (drop (i + 1) xs))) read
    ∙ ap (λ (t : List ℕ). text ++ t) (sym (at_drop_more (flat_map f) xs i x below))
    ∙ before

pub loop-row-preserved : goal.loop-row-preserved
loop-row-preserved c =
    let row = c.row-item.result in
    let written = c.in_ok-write_line-2.ensures in
    let put : c.write_line-in-loop-row.new.text.items
    ≡ c.loop-row.text.items ++ line_text (shown_at row.items) c.in_ok-columns.columns.items =
    rw (← c.deref-in-loop-row.ensures.value, ← c.deref-in-loop-row-2.ensures.value) written in
    line_more _ c.deref-row-items.result.now c.loop-row.row-index row c.loop-row.text.items _ _
    c.loop-row-test.true c.row-item.is put c.loop-row.invariant

pub returns-clause-numbers : goal.returns-clause-numbers
returns-clause-numbers c = decimal_is_IsNumeral
