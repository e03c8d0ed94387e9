use Rattle.std.proofs.Common.{◌≡◌, ℕ, ◌+◌, ◌-◌, ◌*◌, ◌^◌, ◌≤◌}
use Rattle.plots.proofs.scales.tick_step.Given as goal

abbrev pub invariant-loop-power : goal.invariant-loop-power
invariant-loop-power l = record {
  ten : (n : ℕ) × (l.power ≡ 10 ^ n);
  some : 1 ≤ l.power;
  under : 10 * l.power ≤ l.span + 10;
}

abbrev pub decreases-loop-power : goal.decreases-loop-power
decreases-loop-power l = l.span + 10 - l.power
