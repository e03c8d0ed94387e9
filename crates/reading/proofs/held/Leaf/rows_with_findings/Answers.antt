use Rattle.reading.proofs.Each.{all_are, few_told}
use Rattle.reading.proofs.held.Leaf.rows_with_findings.Goals as goal

pub returns-clause-told : goal.returns-clause-told
returns-clause-told g c holds = all_are g.args.self.now c holds

pub returns-clause-few : goal.returns-clause-few
returns-clause-few c = few_told c.args.self.now
