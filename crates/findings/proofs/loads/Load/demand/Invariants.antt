use Rattle.std.proofs.Common.{◌≡◌}
use Rattle.findings.specs.Loads.{load_of}
use Rattle.findings.proofs.Exacts.{part_demand}
use Rattle.findings.proofs.loads.Load.demand.Given as goal

-- so far the sum is the own work and the amounts of the rows before i
abbrev pub invariant-loop-i : goal.invariant-loop-i
invariant-loop-i g l = l.demand ≡ part_demand (load_of l.self) l.i l.at
