-- What was read so far is played.
use Rattle.scripts.specs.Blocks.{PlayedOn}
use Rattle.scripts.specs.PlayState.{progress_of, first_progress}
use Rattle.scripts.proofs.running.run.Given as goal

abbrev pub invariant-loop : goal.invariant-loop
invariant-loop g l = PlayedOn first_progress (progress_of l.player)
    (g.R.Read.remaining l.fn.reader) (g.R.Read.remaining l.reader) (g.W.Write.contents l.fn.writer)
    (g.W.Write.contents l.writer)
