use Rattle.std.proofs.Common.{map, take}
use Rattle.leaves.specs.declared.entries.Entry.TheVariants.{Row as row}
use Rattle.writing.specs.Filing.{FilesAll}
use Rattle.filings.proofs.sheet_writing.put_rows.Given as goal

-- so far the rows of the places seen are filed
abbrev pub invariant-loop-row : goal.invariant-loop-row
invariant-loop-row l = FilesAll l.fn.leaf l.fn.buffer (map row (take l.row-index l.fn.table.rows)) l.leaf l.buffer
