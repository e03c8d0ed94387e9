use Rattle.std.proofs.Common.{◌≢◌, get_or, rules, sym, subst, ◌∙◌}
use Rattle.std.specs.Str.Parse.{ParsesUnsigned}
use Rattle.std.proofs.lemmas.Str.Parse.{parse_plain}
use Rattle.numerals.proofs.NumberOf.{own, no_text, text_of, read_number}
use Rattle.numerals.proofs.numerals.number.Goals as goal

pub returns-in_err-ok : goal.returns-in_err-ok
returns-in_err-ok c =
    let w = c.args.word.now in
    c.from_residual.ensures
    ∙ sym (no_text w c.from_utf8.result _ _ c.from_utf8.ensures.cases (sym c.ok.ensures.value ∙ c.in_err-ok.was))

pub returns : goal.returns
returns c =
    let w = c.args.word.now in
    let plain : get_or c.args.word.now 0 0 ≢ 43 = search rules in
    let same = text_of (λ s. s.now) w c.in_ok-ok.field-0 c.from_utf8.result _ _ c.from_utf8.ensures.cases
    (sym c.ok.ensures.value ∙ c.in_ok-ok.was) in
    let read : ParsesUnsigned 32 10 c.args.word.now c.parse.result =
    subst (λ t. ParsesUnsigned 32 10 t c.parse.result) same c.parse.ensures.value.0 in
    c.ok-2.ensures.value
    ∙ read_number c.args.word.now c.parse.result (parse_plain own 32 c.args.word.now c.parse.result read plain)
