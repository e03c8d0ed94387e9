use Rattle.std.proofs.Common.{◌∷◌, ◌++◌, ap, ◌∙◌, arith}
use Rattle.rows.specs.Lists.{written}
use Rattle.leaves.specs.Bytes.{four}
use Rattle.leaves.specs.Entries.{letter_A}
use Rattle.reading.specs.Phases.{place_of}
use Rattle.writing.proofs.Entries.{finding_filed}
use Rattle.writing.proofs.taking_findings.FindingsLeaf.put_finding.Goals as goal

pub returns : goal.returns
returns c =
    finding_filed c.self.inside.heading c.self.inside.rows c.self.inside.findings c.args.self.now c.self.view_is
    c.args.finding.now c.rest_or_zero.result c.args.buffer.now c.put_numbers.new.buffer c.place-at.result
    c.requires.fewer c.requires.good
    (omega (arith, c.points.type_inv, c.points.ensures)) c.requires.room c.rest_or_zero.ensures
    (c.place-at.ensures ∙ ap place_of c.phase.ensures.answered)
    (c.put_numbers.ensures
    ∙ ap (λ n. written c.args.buffer.now c.place-at.result (letter_A ∷ (four c.rest_or_zero.result ++ four n)))
    c.points.ensures)
