-- Columns of instants, and the first test points in them.
use Rattle.std.proofs.Common.{IsTrue, List, length, get_or, ◌≡◌, ℕ, ◌+◌, ◌-◌, ◌*◌, ◌/◌, ◌<◌, ◌≤◌, Bool, ap, ◌∙◌, subst}
use Rattle.std.proofs.Common.{arith}
use Rattle.std.proofs.lemmas.Nat.{div-mul-add}
use Rattle.std.specs.BTreeSet.{BTreeSet, btree_set_len}
use Rattle.rows.specs.Times.{ceiling}
use Rattle.plots.specs.Thinning.{Draws, DrawsColumns, DrawsMore, DrawsRest, DrawsWithin, IsThinned}

-- columns of a window that is no longer than there are columns have one instant
pub narrow : (window : ℕ) → 1 ≤ window → window ≤ 720 → ceiling window 720 ≡ 1
narrow window some short =
    let e : window + (720 - 1) ≡ 1 * 720 + (window - 1) = omega arith in
    ap (λ n. n / 720) e ∙ div-mul-add 1 720 (window - 1) (omega arith)

-- in a window that is no longer than there are columns every test point is the first in its column
pub all_drawn : (tested : ℕ → Bool) (window : ℕ) (kept : BTreeSet ℕ) → 1 ≤ window
    → DrawsColumns tested window (ceiling window 720) 720 kept
    → window ≤ 720 → (t : ℕ) → 1 ≤ t → t ≤ window → IsTrue (tested t) → Draws kept t
all_drawn tested window kept some firsts short t low high holds =
    let columns : DrawsColumns tested window 1 720 kept =
    subst (λ w. DrawsColumns tested window w 720 kept) (narrow window some short) firsts in
    let start : (t - 1) * 1 ≡ t - 1 = omega arith in
    columns (t - 1) t (omega arith)
    (record { after = omega arith; within = high; holds = holds; none = λ i above below. absurd (omega arith) })
    (omega arith)

-- what decides about a first rest stays drawn
rest_more : (tested : ℕ → Bool) (window rest : ℕ) (old new : BTreeSet ℕ) → DrawsMore old new
    → DrawsRest tested window rest old → DrawsRest tested window rest new
rest_more tested window rest old new more decided = record {
  itself = λ some near. more rest (decided.itself some near);
  before = λ some near. more _ (decided.before some near);
  stop = λ t some first. more t (decided.stop t some first);
}

-- columns, then first rests, and then the end of the window: so it is thinned
pub thinned : (tested : ℕ → Bool) (window : ℕ) (rests : List ℕ) (first all kept : BTreeSet ℕ) → 1 ≤ window
    → DrawsColumns tested window (ceiling window 720) 720 first → DrawsMore first all
    → ((k : ℕ) → k < length rests → DrawsRest tested window (get_or rests k 0) all)
    → btree_set_len all ≤ 720 + 3 * length rests
    → DrawsMore all kept → Draws kept window → DrawsWithin window kept → btree_set_len kept ≤ btree_set_len all + 1
    → IsThinned tested window 720 rests kept
thinned tested window rests first all kept some columns begun decided many more end within one =
    let firsts : DrawsColumns tested window (ceiling window 720) 720 kept =
    λ k t few point near. more t (begun t (columns k t few point near)) in
    record {
      within = within;
      end = end;
      firsts = firsts;
      whole = all_drawn tested window kept some firsts;
      decided = λ k few. rest_more tested window _ all kept more (decided k few);
      few = omega (arith, many, one);
    }
