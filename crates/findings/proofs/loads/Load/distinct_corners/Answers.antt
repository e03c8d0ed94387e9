use Rattle.std.proofs.Common.{◌∙◌, arith}
use Rattle.findings.specs.Counting.{near}
use Rattle.findings.specs.Loads.{load_of}
use Rattle.findings.proofs.Kept.{near_count, near_count_all, told_ahead}
use Rattle.findings.proofs.loads.Load.distinct_corners.Goals as goal

pub returns-then-end-le-NEAR : goal.returns-then-end-le-NEAR
returns-then-end-le-NEAR g c =
    c.count_set.ensures
    ∙ near_count (load_of c.args.self.now) c.args.self.now.prepared.now.flags c.args.end c.args.self.now.kept.marks
    c.if-end-le-NEAR.true

pub merged-requires-clause-counted : goal.merged-requires-clause-counted
merged-requires-clause-counted g c =
    c.count_set-counted.ensures
    ∙ near_count_all (load_of c.args.self.now) c.args.self.now.prepared.now.flags c.args.self.now.kept.marks

pub by_blocks-requires-clause-counted : goal.by_blocks-requires-clause-counted
by_blocks-requires-clause-counted g c =
    c.count_set-counted.ensures
    ∙ near_count_all (load_of c.args.self.now) c.args.self.now.prepared.now.flags c.args.self.now.kept.marks

pub by_blocks-requires-clause-ahead : goal.by_blocks-requires-clause-ahead
by_blocks-requires-clause-ahead g c =
    told_ahead (load_of c.args.self.now) near _ (omega arith) c.args.self.now.kept.ahead
