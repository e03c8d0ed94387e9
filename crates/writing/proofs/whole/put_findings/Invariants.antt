use Rattle.std.proofs.Common.{map, take}
use Rattle.leaves.specs.declared.entries.Entry.TheVariants.{Finding as finding}
use Rattle.writing.specs.Filing.{FilesAll}
use Rattle.writing.proofs.whole.put_findings.Given as goal

-- so far the findings seen are filed
abbrev pub invariant-loop-finding : goal.invariant-loop-finding
invariant-loop-finding l =
    FilesAll l.fn.leaf l.fn.buffer (map finding (take l.finding-index l.findings)) l.leaf l.buffer
