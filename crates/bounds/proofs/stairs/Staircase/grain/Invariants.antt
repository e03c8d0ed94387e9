-- What has been doubled so far is a power of two that fits.
use Rattle.std.proofs.Common.{◌≡◌, ℕ, ◌-◌, ◌^◌, ◌≤◌}
use Rattle.bounds.proofs.stairs.Staircase.grain.Given as goal

abbrev pub invariant-loop-grain : goal.invariant-loop-grain
invariant-loop-grain l =
    record {
      power : (e : ℕ) × (l.grain ≡ 2 ^ e);
      some : 1 ≤ l.grain;
      fits : l.grain ≤ l.most;
    }

abbrev pub decreases-loop-grain : goal.decreases-loop-grain
decreases-loop-grain l = l.most - l.grain
