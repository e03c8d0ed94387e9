use Rattle.std.proofs.Common.{◌≡◌, ℕ, ◌+◌, ◌-◌, ◌≤◌, map, length, drop, take}
use Rattle.std.proofs.Math.Seq.{paste}
use Rattle.rows.specs.Lists.{StaysOutside}
use Rattle.rows.specs.Times.{horizon}
use Rattle.rows.specs.Found.{tells}
use Rattle.findings.specs.Demand.{load}
use Rattle.findings.specs.Prepared.{Prepares}
use Rattle.findings.specs.Served.{NoneServed}
use Rattle.findings.specs.Tables.{findings_of}
use Rattle.findings.proofs.recounting.fill.Given as goal

-- so far the findings of the rows from `from` to i are in the list, and outside of these places it stayed; the rows
-- before i are kept, and below them no row's exact demand is served before `late` and its own work
abbrev pub invariant-loop-i : goal.invariant-loop-i
invariant-loop-i g l = record {
  within : l.i - l.from ≤ length l.rows - l.from;
  put : map tells l.list
      ≡ paste (map tells l.initial.list) l.from (drop l.from (findings_of (g.B.Bound.meaning l.bound) l.frame l.rows))
      (l.i - l.from);
  stay : StaysOutside l.from l.i l.initial.list l.list;
  kept : Prepares (g.B.Bound.meaning l.bound) l.frame.ticks (take l.i l.rows) l.prepared;
  near : l.late ≤ horizon + 1;
  late : (w : ℕ) → 1 ≤ w → NoneServed (load (g.B.Bound.meaning l.bound) l.frame.ticks w (take l.i l.rows)) 0
      (l.late + w);
}
