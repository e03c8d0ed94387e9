use Rattle.std.proofs.Common.{length}
use Rattle.rows.proofs.Moved.{moved_from_rank}
use Rattle.rows.proofs.Ranked.{ranked}
use Rattle.rows.proofs.ranks.put_in.Goals as goal

pub returns-clause-put : goal.returns-clause-put
returns-clause-put g c =
    let old = c.args.list.now in
    let within = ranked (length old) c.args.rank c.in_ok-check_rank.ensures in
    moved_from_rank old c.copy_within.new.self c.args.rank c.args.element within.0 within.1 c.copy_within.ensures.after
