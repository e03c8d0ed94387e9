-- A judged table with a row put in or taken out, or cut off.
use Rattle.std.proofs.Common.{◌≡◌, ℕ, suc, ◌<◌, ◌≤◌, true, List, ◌∷◌, length, take, drop, arith}
use Rattle.std.specs.List.{insert, remove}
use Rattle.std.proofs.lemmas.List.Elements.{All-append, All-cons, All-drop, All-take}
use Rattle.std.proofs.lemmas.List.{length-take}
use Rattle.rows.specs.declared.frames.FrameNumbers.{FrameNumbers}
use Rattle.rows.specs.declared.tasks.Row.{Row}
use Rattle.rows.specs.Books.{IsJudged, book}
use Rattle.rows.specs.Counting.{is_on_frame}
use Rattle.rows.specs.Times.{most_rows}
use Rattle.rows.proofs.Moved.{length_insert, length_remove}

-- with one row more on its frame, where there is room
pub judged_with : (h : FrameNumbers) (rows : List Row) (k : ℕ) (r : Row) → k ≤ length rows → length rows < most_rows
    → is_on_frame h.ticks r ≡ true → IsJudged (book h rows) → IsJudged (book h (insert rows k r))
judged_with h rows k r within room on judged = record {
  frame = judged.frame;
  on = All-append (λ s. is_on_frame h.ticks s ≡ true) (take k rows) (r ∷ drop k rows)
      (All-take (λ s. is_on_frame h.ticks s ≡ true) k rows judged.on)
      (All-cons (λ s. is_on_frame h.ticks s ≡ true) r (drop k rows) on
      (All-drop (λ s. is_on_frame h.ticks s ≡ true) k rows judged.on));
  few = omega (arith, length_insert rows k r within, room);
}

-- and with one less
pub judged_without : (h : FrameNumbers) (rows : List Row) (k : ℕ) → k < length rows → IsJudged (book h rows)
    → IsJudged (book h (remove rows k))
judged_without h rows k within judged = record {
  frame = judged.frame;
  on = All-append (λ s. is_on_frame h.ticks s ≡ true) (take k rows) (drop (suc k) rows)
      (All-take (λ s. is_on_frame h.ticks s ≡ true) k rows judged.on)
      (All-drop (λ s. is_on_frame h.ticks s ≡ true) (suc k) rows judged.on);
  few = omega (arith, length_remove rows k within, judged.few);
}

-- and with the first rows alone
pub judged_first : (h : FrameNumbers) (rows : List Row) (k : ℕ) → IsJudged (book h rows)
    → IsJudged (book h (take k rows))
judged_first h rows k judged = record {
  frame = judged.frame;
  on = All-take (λ s. is_on_frame h.ticks s ≡ true) k rows judged.on;
  few = omega (arith, length-take k rows, judged.few);
}
