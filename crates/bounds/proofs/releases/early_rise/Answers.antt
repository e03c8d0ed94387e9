use Rattle.bounds.proofs.Rises.{earliest_rise}
use Rattle.bounds.proofs.releases.early_rise.Goals as goal

pub returns-then-after-row : goal.returns-then-after-row
returns-then-after-row c = earliest_rise c.args.row.now c.args.after c.if-after-row.true
