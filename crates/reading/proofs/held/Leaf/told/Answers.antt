use Rattle.std.proofs.Common.{ap, ◌∙◌}
use Rattle.std.specs.Option.{option_map}
use Rattle.reading.specs.Told.{told}
use Rattle.reading.proofs.Each.{few_told, told_both}
use Rattle.reading.proofs.held.Leaf.told.Goals as goal

pub returns-clause-answered : goal.returns-clause-answered
returns-clause-answered c =
    ap (option_map told) c.zip.ensures
    ∙ told_both c.args.self.now c.args.rank c.row.result c.finding.result c.row.ensures c.finding.ensures

pub returns-clause-few : goal.returns-clause-few
returns-clause-few c = few_told c.args.self.now
