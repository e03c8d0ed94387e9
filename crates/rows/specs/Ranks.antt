-- Ranks of a list: the first element has rank 1, and the last as high a rank as there are elements.
use Rattle.std.specs.Prelude.{ℕ, Bool, not, ◌&&◌, List, [], ◌∷◌, nat_le}
use Rattle.rows.specs.declared.refusals.Refusal.TheVariants.{NoRank}
use Rattle.rows.specs.Answers.{Check, check}

-- a rank of so many: from 1 to the last
abbrev pub is_rank : ℕ → ℕ → Bool
is_rank last rank = nat_le 1 rank && nat_le rank last

-- what is checked of it: no rank
abbrev pub rank_checks : ℕ → ℕ → List Check
rank_checks last rank = check (not (is_rank last rank)) NoRank 0 ∷ []
