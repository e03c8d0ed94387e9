use Rattle.std.proofs.lemmas.Result.{err_from_is_err_and}
use Rattle.scripts.proofs.Runs.{PlayedOn-more, stopped, stopped_begins, block_failed, block_begins, end_played}
use Rattle.scripts.proofs.Runs.{end_failed, end_begins}
use Rattle.scripts.proofs.Answered.{calls_are_answered}
use Rattle.scripts.proofs.running.run.Goals as goal

pub returns-in_err-play_block-clause-failed : goal.returns-in_err-play_block-clause-failed
returns-in_err-play_block-clause-failed g c =
    let e = err_from_is_err_and c.from_residual.result c.from_residual.ensures.1 in
    rw (e.1, e.2)
    (block_failed _ _ _ _ _ c.loop.invariant _ _ c.in_err-play_block.field-0.0 c.in_err-play_block.ensures.failed)

pub returns-in_err-play_block-clause-begun : goal.returns-in_err-play_block-clause-begun
returns-in_err-play_block-clause-begun g c =
    block_begins _ _ _ _ _ c.loop.invariant _ _ c.in_err-play_block.field-0.0 c.in_err-play_block.ensures.failed

pub returns-then-not-branch-clause-played : goal.returns-then-not-branch-clause-played
returns-then-not-branch-clause-played g c =
    let all = PlayedOn-more _ _ _ _ _ _ _ _ _ c.loop.invariant c.in_ok-play_block.ensures.played in
    end_played _ _ _ _ _ all (c.in_ok-play_block.ensures.end c.if-not-branch.true) _ c.end.result c.end.ensures.played

pub returns-then-not-branch-clause-failed : goal.returns-then-not-branch-clause-failed
returns-then-not-branch-clause-failed g c =
    let all = PlayedOn-more _ _ _ _ _ _ _ _ _ c.loop.invariant c.in_ok-play_block.ensures.played in
    end_failed _ _ _ _ _ all (c.in_ok-play_block.ensures.end c.if-not-branch.true) _ c.end.result c.end.ensures.failed

pub returns-then-not-branch-clause-begun : goal.returns-then-not-branch-clause-begun
returns-then-not-branch-clause-begun g c =
    let all = PlayedOn-more _ _ _ _ _ _ _ _ _ c.loop.invariant c.in_ok-play_block.ensures.played in
    end_begins _ _ _ _ _ all
    (c.in_ok-play_block.ensures.end c.if-not-branch.true) _ c.end.result c.end.ensures.played c.end.ensures.failed

pub loop-preserved : goal.loop-preserved
loop-preserved g c = PlayedOn-more _ _ _ _ _ _ _ _ _ c.loop.invariant c.in_ok-play_block.ensures.played

pub returns-clause-failed : goal.returns-clause-failed
returns-clause-failed g c = stopped _ _ _ _ _ c.loop.invariant c.from.result

pub returns-clause-begun : goal.returns-clause-begun
returns-clause-begun g c = stopped_begins _ _ _ _ _ c.loop.invariant

pub returns-in_err-play_block-clause-calls : goal.returns-in_err-play_block-clause-calls
returns-in_err-play_block-clause-calls g c = calls_are_answered

pub returns-then-not-branch-clause-calls : goal.returns-then-not-branch-clause-calls
returns-then-not-branch-clause-calls g c = calls_are_answered

pub returns-clause-calls : goal.returns-clause-calls
returns-clause-calls g c = calls_are_answered
