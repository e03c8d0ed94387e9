-- A rank that passes its check is one.
use Rattle.std.proofs.Common.{◌≡◌, ℕ, ◌≤◌, not, false, leb}
use Rattle.std.proofs.lemmas.Bool.{and_parts, leb-true, not-false}
use Rattle.rows.specs.declared.refusals.Refusal.TheVariants.{NoRank}
use Rattle.rows.specs.Answers.{Passes}
use Rattle.rows.specs.Ranks.{is_rank, rank_checks}
use Rattle.rows.proofs.Checks.{first_passes}

-- a rank that is not none lies within
pub rank_within : (last rank : ℕ) → not (is_rank last rank) ≡ false → (1 ≤ rank) × (rank ≤ last)
rank_within last rank is =
    let parts = and_parts (leb 1 rank) (leb rank last) (not-false (is_rank last rank) is) in
    (leb-true 1 rank parts.0, leb-true rank last parts.1)

-- so does one that is not refused
pub ranked : (last rank : ℕ) → Passes (rank_checks last rank) → (1 ≤ rank) × (rank ≤ last)
ranked last rank passes = rank_within last rank (first_passes (not (is_rank last rank)) NoRank 0 tt _ passes).0
