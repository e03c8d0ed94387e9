use Rattle.std.proofs.Common.{subst, sym, ◌+◌, ◌*◌, ◌++◌, ◌∷◌, []}
use Rattle.findings.specs.Lines.{LiesUnder}
use Rattle.findings.proofs.Exacts.{lies_more}
use Rattle.findings.proofs.lines.Line.with_row.Goals as goal

pub returns : goal.returns
returns c rows lies =
    let more = lies_more c.args.frame c.args.row.now c.share-share.result c.requires.near c.requires.on
    c.share-share.ensures rows c.args.self.slope c.args.self.height lies in
    subst (λ j. LiesUnder c.args.frame (rows ++ c.args.row.now ∷ []) (c.args.self.slope + c.share-share.result)
    (c.args.self.height + c.share-share.result * j)) (sym c.from.ensures) more
