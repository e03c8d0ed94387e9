-- What was written so far and what the bytes left have written for them is all of it.
use Rattle.std.proofs.Common.{◌≡◌, ℕ, List, ◌++◌, drop}
use Rattle.std.specs.Io.KnownBytes.{Appends}
use Rattle.scripts.specs.PlayState.{progress_of, after_bytes, written_for_bytes}
use Rattle.scripts.proofs.player.Player.take_all.Given as goal

abbrev pub invariant-loop-byte : goal.invariant-loop-byte
invariant-loop-byte g l = record {
  front : List ℕ;
  put : Appends (g.W.Write.contents l.fn.writer) (g.W.Write.contents l.writer) front;
  written : front ++ written_for_bytes (progress_of l.self) (drop l.byte-index l.bytes)
      ≡ written_for_bytes (progress_of l.fn.self) l.bytes;
  played : after_bytes (progress_of l.self) (drop l.byte-index l.bytes) ≡ after_bytes (progress_of l.fn.self) l.bytes;
}
