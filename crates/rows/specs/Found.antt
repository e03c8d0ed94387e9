-- A finding in plain numbers.
use Rattle.std.specs.Prelude.{ℕ, Bool, not, Some, None, Option, is_some}
use Rattle.rows.specs.declared.verdicts.Finding.{Finding}
use Rattle.rows.specs.declared.verdicts.Verdict.{Verdict}
use Rattle.rows.specs.declared.verdicts.Verdict.TheVariants.{Meets, Misses}

-- what is found, in numbers: the first rest, if there is one, and the points tested
pub record Found : Type 0 where
  pub rest : Option ℕ
  pub points : ℕ

-- what is found says that the row meets: there is a first rest
abbrev pub is_met : Found → Bool
is_met f = is_some f.rest

-- or that it misses
abbrev pub is_miss : Found → Bool
is_miss f = not (is_met f)

-- the first rest that a verdict carries: none where the row misses
abbrev pub verdict_rest : Verdict → Option ℕ
verdict_rest (Meets t) = Some t
verdict_rest Misses = None

-- what a finding tells, in numbers
abbrev pub tells : Finding → Found
tells f = record { rest = verdict_rest f.verdict; points = f.points }
