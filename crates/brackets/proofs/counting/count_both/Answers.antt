use Rattle.brackets.proofs.Bracket.{brackets}
use Rattle.brackets.proofs.TwoCounts.{between}
use Rattle.brackets.proofs.counting.count_both.Goals as goal

pub returns-in_err-exact-clause-brackets : goal.returns-in_err-exact-clause-brackets
returns-in_err-exact-clause-brackets g c = brackets (g.met.B.Bound.lawful c.args.bound.now)

pub returns-clause-between : goal.returns-clause-between
returns-clause-between g c =
    between c.args.row.now c.args.above.now
    (g.met.B.Bound.lawful c.args.bound.now) _ c.in_ok-bounded.ensures.answered c.in_ok-bounded.ensures.judged

pub returns-clause-brackets : goal.returns-clause-brackets
returns-clause-brackets g c = brackets (g.met.B.Bound.lawful c.args.bound.now)
