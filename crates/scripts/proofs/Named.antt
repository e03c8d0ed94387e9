-- A supplied bound means what its kind and its accuracy name.
use Rattle.std.proofs.Common.{◌≡◌, ℕ, ap, ◌∙◌}
use Rattle.bounds.specs.declared.families.Family.{Family}
use Rattle.bounds.specs.declared.supplied.Supplied.{Supplied}
use Rattle.bounds.specs.Families.{family_meaning, supplied_plain}
use Rattle.bounds.specs.Values.{meaning_of}
use Rattle.bounds.proofs.Numbered.{means_plain}

pub meaning_named : (b : Supplied) (f : Family) (k : ℕ) → supplied_plain b ≡ (f, k) → meaning_of b ≡ family_meaning f k
meaning_named b f k is = means_plain b ∙ ap (λ p. family_meaning p.0 p.1) is
