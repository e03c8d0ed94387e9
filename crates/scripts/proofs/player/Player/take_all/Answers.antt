use Rattle.std.proofs.Common.{arith, ◌+◌, ◌++◌, drop, get_or, sym, ap, ◌∙◌, subst}
use Rattle.std.proofs.KnownBytes.{Appends-trans}
use Rattle.std.proofs.lemmas.Result.{err_from_is_err_and}
use Rattle.scripts.specs.Written.{Begun}
use Rattle.scripts.specs.PlayState.{progress_of, after_byte, written_for_byte, written_for_bytes}
use Rattle.scripts.proofs.Beginnings.{Begun-after, Begun-longer}
use Rattle.scripts.proofs.Played.{played_more, written_more, written_next}
use Rattle.scripts.proofs.player.Player.take_all.Goals as goal

pub returns-in_err-take-clause-begun : goal.returns-in_err-take-clause-begun
returns-in_err-take-clause-begun g c =
    let e = err_from_is_err_and c.from_residual.result c.from_residual.ensures.1 in
    let l = c.loop-byte in
    let p = progress_of l.self in
    let bytes = c.args.bytes.now in
    let b = get_or bytes l.byte-index 0 in
    let more = Begun-longer _ _ (written_for_byte p b)
    (written_for_bytes (after_byte p b) (drop (l.byte-index + 1) bytes)) c.in_err-take.ensures.begun in
    rw e.1 (subst (Begun _ _)
    (ap (λ x. l.invariant.front ++ x) (sym (written_next p bytes l.byte-index (omega arith))) ∙ l.invariant.written)
    (Begun-after _ _ _ l.invariant.front _ l.invariant.put more))

pub loop-byte-preserved : goal.loop-byte-preserved
loop-byte-preserved g c =
    let l = c.loop-byte in
    let p = progress_of l.self in
    let bytes = c.args.bytes.now in
    let taken = c.in_ok-take.ensures.taken in
    record {
      front = l.invariant.front ++ written_for_byte p (get_or bytes l.byte-index 0);
      put = Appends-trans _ _ _ _ _ l.invariant.put c.in_ok-take.ensures.written;
      written = written_more p bytes l.byte-index (omega arith) _ _ _ taken l.invariant.written;
      played = played_more p bytes l.byte-index (omega arith) _ _ taken l.invariant.played;
    }
