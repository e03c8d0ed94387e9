use Rattle.std.proofs.Common.{◌+◌, sym, ap, ◌∙◌, subst, arith}
use Rattle.leaves.specs.declared.entries.Entry.TheVariants.{End as end}
use Rattle.reading.specs.Phases.{place_of, rows_in, findings_in}
use Rattle.writing.specs.Filing.{Files}
use Rattle.writing.proofs.Entries.{end_filed}
use Rattle.writing.proofs.taking_findings.FindingsLeaf.put_end.Goals as goal

pub returns : goal.returns
returns c =
    subst (λ q. Files c.args.self c.args.buffer.now
    (end (1 + rows_in c.args.self + findings_in c.args.self)) q c.put_numbers.new.buffer) (sym c.of.ensures)
    (end_filed c.self.inside.heading c.self.inside.rows c.self.inside.findings c.args.self c.self.view_is
    (1 + c.from.result + c.from-2.result) c.args.buffer.now c.put_numbers.new.buffer c.place-at.result
    c.self.invariant.1 c.requires.even c.requires.room (omega (arith, c.from.ensures, c.from-2.ensures))
    (c.place-at.ensures ∙ ap place_of c.phase.ensures.answered) c.put_numbers.ensures)
