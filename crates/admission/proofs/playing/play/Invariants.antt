use Rattle.std.proofs.Common.{◌≡◌, ◌-◌, map, length, take}
use Rattle.std.proofs.Math.Seq.{paste}
use Rattle.rows.specs.Lists.{StaysOutside}
use Rattle.admission.specs.Benches.{bench}
use Rattle.admission.specs.Replies.{answer_of}
use Rattle.admission.specs.Runs.{book_after, answers_to}
use Rattle.admission.proofs.playing.play.Given as goal

-- so far the bench is that of the calls made, and the replies to them are in the list, which else stayed
abbrev pub invariant-loop-i : goal.invariant-loop-i
invariant-loop-i g l = record {
  became : l.bench
      ≡ bench (g.B.Bound.meaning l.fn.bound) l.fn.bound (book_after (g.B.Bound.meaning l.fn.bound) (take l.i l.calls));
  put : map answer_of l.replies
      ≡ paste (map answer_of l.initial.replies) 0 (answers_to (g.B.Bound.meaning l.fn.bound) l.calls) (l.i - 0);
  stay : StaysOutside 0 l.i l.initial.replies l.replies;
  room : length l.replies ≡ length l.initial.replies;
}
