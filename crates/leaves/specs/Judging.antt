-- Which findings can be filed.
use Rattle.std.specs.Prelude.{◌≡◌, ℕ, ◌^◌, ◌<◌, Bool, true, false, not, ◌&&◌, ◌||◌, List, [], ◌∷◌, Some, None, Option}
use Rattle.std.specs.Prelude.{◌==◌, nat_le}
use Rattle.rows.specs.declared.refusals.Refusal.TheVariants.{BadFinding}
use Rattle.rows.specs.Answers.{Check, check}
use Rattle.rows.specs.Times.{horizon}
use Rattle.rows.specs.declared.verdicts.Finding.{Finding}
use Rattle.rows.specs.Found.{verdict_rest}

-- a first rest, where there is one, lies from 1 to the horizon
abbrev pub is_in_range : Option ℕ → Bool
is_in_range None = true
is_in_range (Some t) = nat_le 1 t && nat_le t horizon

-- a finding that cannot be one: it has no points, or a first rest that none can have
abbrev pub is_bad_finding : Finding → Bool
is_bad_finding f = f.points == 0 || not (is_in_range (verdict_rest f.verdict))

-- what is checked of a finding: bad finding
abbrev pub finding_checks : Finding → ℕ → List Check
finding_checks f at = check (is_bad_finding f) BadFinding at ∷ []

-- a finding can be filed: it is not bad, and its points fit four bytes
pub record IsFilable (f : Finding) : Type 0 where
  pub good : is_bad_finding f ≡ false
  pub fits : f.points < 2 ^ 32
