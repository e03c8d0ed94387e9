use Rattle.std.proofs.Common.{◌≡◌, ℕ, ◌+◌, ◌*◌, ◌<◌, ◌≤◌, slice_index_or}
use Rattle.findings.proofs.trees.leaves.Given as goal

-- the inner nodes stand at 0, and the leaves of the places so far are set
abbrev pub invariant-loop-place : goal.invariant-loop-place
invariant-loop-place l = record {
  zero : (k : ℕ) → k < 32 → slice_index_or l.keys k 0 ≡ 0;
  leaves : (k : ℕ) → k < l.place → slice_index_or l.keys (32 + k) 0 ≤ slice_index_or l.nexts k 0 * 32 + 31;
}
