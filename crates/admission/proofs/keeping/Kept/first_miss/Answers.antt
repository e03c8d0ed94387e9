use Rattle.std.proofs.Common.{ap, sym, ◌∙◌, position}
use Rattle.rows.specs.Found.{is_miss, tells}
use Rattle.rows.proofs.Places.{position_map}
use Rattle.admission.proofs.keeping.Kept.first_miss.Goals as goal

pub returns : goal.returns
returns c =
    c.first_miss.ensures ∙ ap (position (λ f. is_miss (tells f))) c.as_slice.ensures.value
    ∙ sym (position_map tells is_miss c.args.self.now.findings.items)
