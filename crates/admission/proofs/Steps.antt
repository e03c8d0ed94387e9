-- What every call keeps.
use Rattle.std.proofs.Common.{◌≡◌, ℕ, ◌+◌, ◌-◌, ◌≤◌, true, not, ltb, List, [], ◌∷◌, ◌++◌, suc, length, take}
use Rattle.std.proofs.Common.{drop, get_or, sym, refl, ap, ◌∙◌, subst, arith, position}
use Rattle.std.specs.List.{AllPass}
use Rattle.std.proofs.Math.Seq.{split_at}
use Rattle.std.proofs.lemmas.Bool.{not-false, ltb-false}
use Rattle.std.proofs.lemmas.List.{append_assoc, append-nil, length-append, length-drop, length-take-le}
use Rattle.std.proofs.lemmas.List.{nil_from_length, take_at, take-append-drop}
use Rattle.std.proofs.lemmas.List.Elements.{All-nil, All-cons, All-append, All-take, All-drop, All-head}
use Rattle.std.proofs.lemmas.List.Elements.{All-tail}
use Rattle.rows.specs.declared.frames.FrameNumbers.{FrameNumbers}
use Rattle.rows.specs.declared.refusals.Refusal.{Refusal}
use Rattle.rows.specs.declared.refusals.Refusal.TheVariants.{BadFrame, StandingRows, NoRank}
use Rattle.rows.specs.declared.tasks.Numbers.{Numbers}
use Rattle.rows.specs.declared.tasks.Row.{Row}
use Rattle.rows.specs.Answers.{Answer, gives, refuses, checked, Passes}
use Rattle.rows.specs.Counting.{is_on_frame}
use Rattle.rows.specs.Times.{is_frame, most_rows}
use Rattle.rows.proofs.Checks.{first_passes, passed_first}
use Rattle.bounds.specs.Meaning.{Meaning}
use Rattle.rows.specs.Found.{Found, is_met, is_miss}
use Rattle.findings.specs.Countable.{StandOn}
use Rattle.findings.specs.Findings.{row_finding}
use Rattle.findings.specs.Tables.{findings_below, findings_of}
use Rattle.brackets.proofs.Bracket.{fewer_above}
use Rattle.brackets.proofs.Earlier.{some_earlier}
use Rattle.admission.specs.declared.calls.Call.{Call}
use Rattle.admission.specs.declared.calls.Call.TheVariants.{Frame, Admit, Dismiss, Inquire}
use Rattle.rows.specs.Books.{Book, book}
use Rattle.rows.specs.Ranks.{is_rank}
use Rattle.rows.proofs.Ranked.{rank_within}
use Rattle.admission.specs.Books.{checks_of, entry_checks, findings_with, first_book, miss_checks, once_done, step}
use Rattle.admission.specs.Books.{told, with_newcomer, without}
use Rattle.admission.specs.Promises.{by_first_miss}
use Rattle.admission.specs.Replies.{Told, done}
use Rattle.admission.specs.Runs.{book_from, book_after}
use Rattle.admission.proofs.Findings.{findings_append}
use Rattle.admission.proofs.Entry.{Enters, enters, left_to}
use Rattle.admission.proofs.Places.{all_parts}
use Rattle.admission.proofs.Decided.{decided, met_passes, passes_met}

-- the rows of a book stand on its frame, there are places enough, and every row meets
pub record Sound (m : Meaning) (b : Book) : Type 0 where
  pub stand : StandOn b.frame.ticks b.rows
  pub few : length b.rows ≤ most_rows
  pub meet : AllPass is_met (findings_of m b.frame b.rows)

-- a call that is answered leaves the book that it comes to, and the answer
pub step_given : (m : Meaning) (b : Book) (c : Call) (x : Told) → gives x ≡ checked (checks_of m b c) (told m b c)
    → step m b c ≡ (once_done b c, gives x)
step_given m b c x given = rw (sym given) refl

-- a call that is refused leaves the book as it was, and the refusal
pub step_refused : (m : Meaning) (b : Book) (c : Call) (n : Refusal) (at : ℕ)
    → refuses n at ≡ checked (checks_of m b c) (told m b c) → step m b c ≡ (b, refuses n at)
step_refused m b c n at refused = rw (sym refused) refl

-- the answer to a call is that of its checks
pub step_answers : (m : Meaning) (b : Book) (c : Call) → (step m b c).1 ≡ checked (checks_of m b c) (told m b c)
step_answers m b c = by (checked (checks_of m b c) (told m b c)) refl
  where
    by : (a : Answer Told) → a ≡ checked (checks_of m b c) (told m b c) → (step m b c).1 ≡ a
    by (gives x) given = ap (λ s. s.1) (step_given m b c x given)
    by (refuses n at) refused = ap (λ s. s.1) (step_refused m b c n at refused)

-- rows that stand on a frame stand on it without those after some place
pub stands_before : (h : ℕ) (rows xs ys : List Row) → StandOn h rows → rows ≡ xs ++ ys → StandOn h xs
stands_before h rows xs ys stand split =
    let front = ap (take (length xs)) split ∙ take_at xs ys (length xs) refl in
    record {
      frame = stand.frame;
      on =
          subst (AllPass (is_on_frame h)) front (All-take (λ s. is_on_frame h s ≡ true) (length xs) rows stand.on);
    }

-- the first book is sound
pub first_sound : (m : Meaning) → Sound m first_book
first_sound m =
    record {
      stand = record { frame = refl; on = All-nil (λ s. is_on_frame 1 s ≡ true) };
      few = omega arith;
      meet = All-nil (λ f. is_met f ≡ true);
    }

-- with a newcomer that enters, the rows stand on the frame
pub stands_with : (b : Book) (rank : ℕ) (n : Numbers) → StandOn b.frame.ticks b.rows → Enters b rank n
    → StandOn b.frame.ticks (with_newcomer rank n b.rows)
stands_with b rank n stand entry =
    let On : Row → Type 0 = λ s. is_on_frame b.frame.ticks s ≡ true in
    let front = take (rank - 1) b.rows in
    let back = drop (rank - 1) b.rows in
    let rest = All-cons On entry.row back entry.on (All-drop On (rank - 1) b.rows stand.on) in
    let rows : AllPass (is_on_frame b.frame.ticks) (front ++ entry.row ∷ back) =
    All-append On front (entry.row ∷ back) (All-take On (rank - 1) b.rows stand.on) rest in
    record {
      frame = stand.frame;
      on =
          subst (λ new. AllPass (is_on_frame b.frame.ticks) (front ++ (new ++ back))) (sym entry.made) rows;
    }

-- with a newcomer that enters there is one row more
pub length_with : (b : Book) (rank : ℕ) (n : Numbers) → Enters b rank n
    → length (with_newcomer rank n b.rows) ≡ length b.rows + 1
length_with b rank n entry =
    let front = take (rank - 1) b.rows in
    let back = drop (rank - 1) b.rows in
    ap (λ new. length (front ++ (new ++ back))) entry.made
    ∙ omega (
      arith,
      length-append front (entry.row ∷ back),
      length-take-le (rank - 1) b.rows (omega (arith, entry.high)),
      length-drop (rank - 1) b.rows,
      entry.low,
      entry.high,
    )

-- rows that meet below others still meet with one of those taken away
still_met : (m : Meaning) (h : FrameNumbers) (x : Row) (xs ys rows : List Row)
    → AllPass is_met (findings_below m h (xs ++ x ∷ ys) rows) → AllPass is_met (findings_below m h (xs ++ ys) rows)
still_met m h x xs ys [] met = All-nil (λ f. is_met f ≡ true)
still_met m h x xs ys (r ∷ rows) met =
    let Met : Found → Type 0 = λ f. is_met f ≡ true in
    let more = findings_below m h ((xs ++ x ∷ ys) ++ r ∷ []) rows in
    let here = some_earlier _ _ (fewer_above m h r x xs ys)
    (All-head Met (row_finding m h r (xs ++ x ∷ ys)) more met) in
    let later : AllPass is_met (findings_below m h (xs ++ x ∷ (ys ++ r ∷ [])) rows) =
    subst (λ a. AllPass is_met (findings_below m h a rows)) (append_assoc xs (x ∷ ys) (r ∷ []))
    (All-tail Met (row_finding m h r (xs ++ x ∷ ys)) more met) in
    All-cons Met (row_finding m h r (xs ++ ys)) (findings_below m h ((xs ++ ys) ++ r ∷ []) rows) here
    (subst (λ a. AllPass is_met (findings_below m h a rows)) (sym (append_assoc xs ys (r ∷ [])))
    (still_met m h x xs (ys ++ r ∷ []) rows later))

-- every row of a table that meets still meets with one above it taken away
met_without : (m : Meaning) (h : FrameNumbers) (x : Row) (xs ys : List Row)
    → AllPass is_met (findings_of m h (xs ++ x ∷ ys)) → AllPass is_met (findings_of m h (xs ++ ys))
met_without m h x xs ys met =
    let Met : Found → Type 0 = λ f. is_met f ≡ true in
    let first = findings_of m h xs in
    let parts = all_parts Met first (row_finding m h x xs ∷ findings_below m h (xs ++ x ∷ []) ys)
    (subst (AllPass is_met) (findings_append m h [] xs (x ∷ ys)) met) in
    let below = All-tail Met (row_finding m h x xs) (findings_below m h (xs ++ x ∷ []) ys) parts.1 in
    let still = subst (λ a. AllPass is_met (findings_below m h a ys)) (append-nil xs)
    (still_met m h x xs [] ys below) in
    subst (AllPass is_met) (sym (findings_append m h [] xs ys))
    (All-append Met first (findings_below m h xs ys) parts.0 still)

-- where all rows of a table meet, so do the first of them
pub meet_before : (m : Meaning) (h : FrameNumbers) (rows : List Row) (i : ℕ) → AllPass is_met (findings_of m h rows)
    → AllPass is_met (findings_of m h (take i rows))
meet_before m h rows i met =
    let front = take i rows in
    let back = drop i rows in
    let both : AllPass is_met (findings_of m h (front ++ back)) =
    subst (λ rs. AllPass is_met (findings_of m h rs)) (sym (take-append-drop i rows)) met in
    (all_parts (λ f. is_met f ≡ true) (findings_of m h front) (findings_below m h front back)
    (subst (AllPass is_met) (findings_append m h [] front back) both)).0

-- the rows of a table part at a rank
pub parts_at : (rank : ℕ) (rows : List Row) → 1 ≤ rank → rank ≤ length rows
    → (x : Row) × (rows ≡ take (rank - 1) rows ++ x ∷ drop rank rows)
parts_at rank [] low high = absurd (omega (arith, low, high))
parts_at rank (s ∷ rows) low high =
    let next : suc (rank - 1) ≡ rank = omega arith in (
      get_or (s ∷ rows) (rank - 1) s,
      split_at (s ∷ rows) (rank - 1) s (omega arith)
          ∙ ap (λ n. take (rank - 1) (s ∷ rows) ++ get_or (s ∷ rows) (rank - 1) s ∷ drop n (s ∷ rows)) next,
    )

-- what holds of a book holds with a row dismissed
pub without_sound : (m : Meaning) (b : Book) (rank : ℕ) → Sound m b → 1 ≤ rank → rank ≤ length b.rows
    → Sound m (book b.frame (without rank b.rows))
without_sound m b rank sound low high =
    let On : Row → Type 0 = λ s. is_on_frame b.frame.ticks s ≡ true in
    let front = take (rank - 1) b.rows in
    let back = drop rank b.rows in
    let parts = parts_at rank b.rows low high in
    record {
      stand = record {
        frame = sound.stand.frame;
        on =
            All-append On front back (All-take On (rank - 1) b.rows sound.stand.on)
            (All-drop On rank b.rows sound.stand.on);
      };
      few = omega (
        arith,
        sound.few,
        length-append front back,
        length-take-le (rank - 1) b.rows (omega arith),
        length-drop rank b.rows,
      );
      meet = met_without m b.frame parts.0 front back
          (subst (λ rows. AllPass is_met (findings_of m b.frame rows)) parts.1 sound.meet);
    }

-- what holds of a book holds with a newcomer that enters, where every row meets
pub with_sound : (m : Meaning) (b : Book) (rank : ℕ) (n : Numbers) → Sound m b → Enters b rank n
    → AllPass is_met (findings_of m b.frame (with_newcomer rank n b.rows))
    → Sound m (book b.frame (with_newcomer rank n b.rows))
with_sound m b rank n sound entry met =
    record {
      stand = stands_with b rank n sound.stand entry;
      few =
          omega (arith, length_with b rank n entry, entry.room);
      meet = met;
    }

-- an admit that is answered has passed its checks: the newcomer enters, and with it every row meets
pub admitted : (m : Meaning) (b : Book) (rank : ℕ) (n : Numbers) (x y : Told)
    → gives x ≡ checked (checks_of m b (Admit rank n)) y
    → Passes (entry_checks b rank n) × Enters b rank n × AllPass is_met (findings_with m b rank n)
admitted m b rank n x y given =
    let passed = left_to (entry_checks b rank n) (miss_checks m b rank n) (gives x) y refl given in
    let entry = enters b rank n passed.0 in (passed.0, entry, passes_met m b rank n entry x y passed.1)

-- a newcomer that comes through the other checks
module _ (m : Meaning) (b : Book) (rank : ℕ) (n : Numbers) (passes : Passes (entry_checks b rank n)) where
  -- is answered by the checks of misses
  last_checks : checked (miss_checks m b rank n) done ≡ checked (checks_of m b (Admit rank n)) done
  last_checks = passed_first (entry_checks b rank n) (miss_checks m b rank n) tt tt passes done

  -- is admitted where with it every row meets
  pub admits : AllPass is_met (findings_with m b rank n) → gives done ≡ checked (checks_of m b (Admit rank n)) done
  admits met = sym (met_passes m b rank n (enters b rank n passes) met done) ∙ last_checks

  -- is answered by the first miss with it, where every row that stands meets
  pub first_miss : Sound m b
      → by_first_miss rank (position is_miss (findings_with m b rank n)) ≡ checked (checks_of m b (Admit rank n)) done
  first_miss sound =
      sym (decided m b rank n (enters b rank n passes) (meet_before m b.frame b.rows (rank - 1) sound.meet))
      ∙ last_checks

-- a call that is answered keeps the book sound
done_sound : (m : Meaning) (b : Book) (c : Call) (x y : Told) → gives x ≡ checked (checks_of m b c) y → Sound m b
    → Sound m (once_done b c)
done_sound m b (Frame h) x y given sound =
    let frame = first_passes (not (is_frame h.ticks)) BadFrame 0 x _ given in
    let standing = first_passes (ltb 0 (length b.rows)) StandingRows 0 x _ frame.1 in
    let none : b.rows ≡ [] = nil_from_length b.rows (omega (arith, ltb-false 0 (length b.rows) standing.0)) in
    subst (λ rows. Sound m (book h rows)) (sym none)
    (record {
      stand = record { frame = not-false (is_frame h.ticks) frame.0; on = All-nil (λ s. is_on_frame h.ticks s ≡ true) };
      few = omega arith;
      meet = All-nil (λ f. is_met f ≡ true);
    })
done_sound m b (Admit rank n) x y given sound = let passed = admitted m b rank n x y given in
    with_sound m b rank n sound passed.1 passed.2
done_sound m b (Dismiss rank) x y given sound =
    let within = rank_within (length b.rows) rank
    (first_passes (not (is_rank (length b.rows) rank)) NoRank 0 x _ given).0 in
    without_sound m b rank sound within.0 within.1
done_sound m b (Inquire rank) x y given sound = sound

-- every call keeps the book sound
pub step_sound : (m : Meaning) (b : Book) (c : Call) → Sound m b → Sound m (step m b c).0
step_sound m b c sound = by (checked (checks_of m b c) (told m b c)) refl
  where
    by : (a : Answer Told) → a ≡ checked (checks_of m b c) (told m b c) → Sound m (step m b c).0
    by (gives x) given =
        subst (λ s. Sound m s.0) (sym (step_given m b c x given)) (done_sound m b c x (told m b c) given sound)
    by (refuses n at) refused = subst (λ s. Sound m s.0) (sym (step_refused m b c n at refused)) sound

-- every list of calls keeps the book sound
pub book_from_sound : (m : Meaning) (b : Book) (calls : List Call) → Sound m b → Sound m (book_from m b calls)
book_from_sound m b [] sound = sound
book_from_sound m b (c ∷ calls) sound = book_from_sound m (step m b c).0 calls (step_sound m b c sound)

-- the book of a new bench is sound after every list of calls
pub runs_sound : (m : Meaning) (calls : List Call) → Sound m (book_after m calls)
runs_sound m calls = book_from_sound m first_book calls (first_sound m)
