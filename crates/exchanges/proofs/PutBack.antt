-- A row that is dismissed can be admitted back at its rank, and then the bench is as it was.
use Rattle.std.proofs.Common.{◌≡◌, ℕ, suc, ◌+◌, ◌-◌, ◌≤◌, true, false, not, leb, List, [], ◌∷◌, ◌++◌, length, get_or}
use Rattle.std.proofs.Common.{take, drop, Some, None, Option, Ok, Err, Result, refl, sym, ap, ◌∙◌, subst, ap₂, arith}
use Rattle.std.proofs.Common.{position, OnErr}
use Rattle.std.specs.List.{AllPass, insert}
use Rattle.std.specs.Option.{option_map}
use Rattle.std.specs.Result.{IsOk, is_err}
use Rattle.std.proofs.lemmas.Bool.{le-ltb, ne_eqb, and_from, le-leb}
use Rattle.std.proofs.lemmas.List.{append_assoc, drop_at, get_or_at, take_at, length-append, length-drop}
use Rattle.std.proofs.lemmas.List.{length-take-le}
use Rattle.std.proofs.lemmas.List.Elements.{All-weaker}
use Rattle.rows.specs.declared.frames.FrameNumbers.{FrameNumbers}
use Rattle.rows.specs.declared.judging.Flaw.TheVariants.{Idle, Cramped, Late, Long, Off}
use Rattle.rows.specs.declared.refusals.Refusal.TheVariants.{IdleRow, NoWindow, LateDeadline, LongPeriod, OffFrame}
use Rattle.rows.specs.declared.refusals.Refusal.TheVariants.{NoRank}
use Rattle.rows.specs.declared.refusals.Fault.{Fault}
use Rattle.rows.specs.declared.tasks.Numbers.{Numbers}
use Rattle.rows.specs.declared.tasks.Row.{Row}
use Rattle.rows.specs.Answers.{Answer, gives, refuses, Check, checked, first_refusal, refusal}
use Rattle.rows.specs.Books.{Book, IsJudged, book}
use Rattle.rows.specs.Counting.{is_on_frame}
use Rattle.rows.specs.Judging.{plain, has_flaw, frame_flaws, flaw_checks}
use Rattle.rows.specs.Ranks.{is_rank}
use Rattle.rows.specs.Times.{horizon}
use Rattle.rows.proofs.Checks.{gives_any, passes_on, places_pass_on, refuses_any}
use Rattle.bounds.specs.Meaning.{Meaning}
use Rattle.rows.specs.Found.{Found, tells, is_met, is_miss}
use Rattle.rows.specs.declared.verdicts.Finding.{Finding}
use Rattle.findings.specs.Tables.{findings_of}
use Rattle.admission.specs.declared.calls.Call.TheVariants.{Admit, Dismiss, Inquire}
use Rattle.admission.specs.declared.calls.Reply.{Reply}
use Rattle.admission.specs.declared.calls.Reply.TheVariants.{Found as FoundRow}
use Rattle.admission.specs.Benches.{Held, bench, Does}
use Rattle.admission.specs.Promises.{StandsAndMeets}
use Rattle.admission.specs.Books.{checks_of, step, told, with_newcomer, without}
use Rattle.admission.specs.Replies.{Told, answer_of, as_done, done}
use Rattle.admission.proofs.Called.{comes_through, newcomer_is}
use Rattle.admission.proofs.Steps.{admits, step_answers, step_given, step_refused}
use Rattle.exchanges.specs.Exchanged.{exchange_checks}

-- to inquire leaves the book
inquire_leaves : (m : Meaning) (b : Book) (rank : ℕ) → (step m b (Inquire rank)).0 ≡ b
inquire_leaves m b rank = by (checked (checks_of m b (Inquire rank)) (told m b (Inquire rank))) refl
  where
    by : (a : Answer Told) → a ≡ checked (checks_of m b (Inquire rank)) (told m b (Inquire rank))
        → (step m b (Inquire rank)).0 ≡ b
    by (gives x) given = ap (λ s. s.0) (step_given m b (Inquire rank) x given)
    by (refuses n at) refused = ap (λ s. s.0) (step_refused m b (Inquire rank) n at refused)

-- a bench that is inquired is that of its bound and book
pub kept_is : {B : Type 0} (m : Meaning) (rank : ℕ) (now : Held B) (reply : Reply) → Does m (Inquire rank) now now reply
    → now ≡ bench m now.bound now.book
kept_is m rank now reply does = does.becomes ∙ ap (bench m now.bound) (inquire_leaves m now.book rank)

-- a row stands at a rank, between those before and after it
pub record StandsAt (rank : ℕ) (rows : List Row) (r : Row) : Type 0 where
  pub low : 1 ≤ rank
  pub high : rank ≤ length rows
  pub split : rows ≡ take (rank - 1) rows ++ r ∷ drop rank rows

-- so stands a row that is told with those before it, one less than its rank, and those after it
stands_at : (rank : ℕ) (rows above below : List Row) (r : Row) → rows ≡ above ++ r ∷ below → rank ≡ length above + 1
    → StandsAt rank rows r
stands_at rank rows above below r split place =
    let one : length (above ++ r ∷ []) ≡ rank = length-append above (r ∷ []) ∙ sym place in
    let front = ap (take (rank - 1)) split ∙ take_at above (r ∷ below) (rank - 1) (omega (arith, place)) in
    let back = ap (drop rank) (split ∙ sym (append_assoc above (r ∷ []) below))
    ∙ drop_at (above ++ r ∷ []) below rank one in
    let count : length (r ∷ below) ≡ suc (length below) = refl in
    record {
      low = omega (arith, place);
      high = omega (arith, place, ap length split, length-append above (r ∷ below), count);
      split = split ∙ sym (ap₂ (λ xs ys. xs ++ r ∷ ys) front back);
    }

-- a row on a frame has no flaw
no_flaw : (h : FrameNumbers) (r : Row) → is_on_frame h.ticks r ≡ true
    → gives (plain r) ≡ checked (flaw_checks (frame_flaws h) (plain r) 0) (plain r)
no_flaw h r on =
    let n = plain r in
    sym (passes_on (has_flaw Idle n) IdleRow 0 _ (ne_eqb r.work 0 (λ e. omega (arith, e, r.busy)))
    ∙ passes_on (has_flaw Cramped n) NoWindow 0 _ (le-ltb r.deadline (r.work + r.jitter) r.roomy)
    ∙ passes_on (has_flaw Late n) LateDeadline 0 _ (le-ltb r.period r.deadline r.timely)
    ∙ passes_on (has_flaw Long n) LongPeriod 0 _ (le-ltb horizon r.period r.near)
    ∙ passes_on (has_flaw (Off h) n) OffFrame 0 (gives n) (ap not on))

-- the book without the row at a rank
abbrev pub without_it : ℕ → Book → Book
without_it rank b = book b.frame (without rank b.rows)

-- a row that stands at a rank, dismissed and admitted back
module _ (m : Meaning) (b : Book) (rank : ℕ) (r : Row) (there : StandsAt rank b.rows r) where
  -- a row can be dismissed there
  passes : not (is_rank (length b.rows) rank) ≡ false
  passes = ap not
      (and_from (leb 1 rank) (leb rank (length b.rows)) (le-leb 1 rank there.low)
      (le-leb rank (length b.rows) there.high))

  pub dismissed : step m b (Dismiss rank) ≡ (without_it rank b, gives done)
  dismissed = step_given m b (Dismiss rank) done
      (sym (passes_on (not (is_rank (length b.rows) rank)) NoRank 0 (gives done) passes))

  -- with the row put in again, the rows are those that stood
  put_back : b.rows ≡ insert (without rank b.rows) (rank - 1) r
  put_back =
      let front = take (rank - 1) b.rows in
      let back = drop rank b.rows in
      let place = length-take-le (rank - 1) b.rows (omega (arith, there.high)) in
      there.split ∙ sym
      (ap₂ (λ xs ys. xs ++ r ∷ ys) (take_at front back (rank - 1) place) (drop_at front back (rank - 1) place))

  -- the row that is put in again stands on the frame
  on_frame : AllPass (is_on_frame b.frame.ticks) b.rows → is_on_frame b.frame.ticks r ≡ true
  on_frame on =
      let place = length-take-le (rank - 1) b.rows (omega (arith, there.high)) in
      let is : get_or b.rows (rank - 1) r ≡ r =
      ap (λ rs. get_or rs (rank - 1) r) there.split
      ∙ get_or_at (take (rank - 1) b.rows) r (drop rank b.rows) r (rank - 1) place in
      ap (is_on_frame b.frame.ticks) (sym is) ∙ on (rank - 1) r (omega (arith, there.low, there.high))

  -- where the table is judged and all rows meet, it is admitted back, and the book is as it was
  pub back : IsJudged b → AllPass is_met (findings_of m b.frame b.rows)
      → step m (without_it rank b) (Admit rank (plain r)) ≡ (b, gives done)
  back table met =
      let lone = without_it rank b in
      let front = take (rank - 1) b.rows in
      let many : length (without rank b.rows) + 1 ≡ length b.rows =
      omega (
        arith,
        length-append front (drop rank b.rows),
        length-take-le (rank - 1) b.rows (omega (arith, there.high)),
        length-drop rank b.rows,
        there.low,
        there.high,
      )
      in
      let judged = no_flaw b.frame r (on_frame table.on) in
      let passes = comes_through lone rank (plain r) r judged (omega (arith, many, table.few)) there.low
      (omega (arith, many, there.high)) in
      let same : with_newcomer rank (plain r) (without rank b.rows) ≡ b.rows =
      newcomer_is lone rank (plain r) r judged ∙ sym put_back in
      let all = subst (λ rows. AllPass is_met (findings_of m b.frame rows)) (sym same) met in
      step_given m lone (Admit rank (plain r)) done (admits m lone rank (plain r) passes all)
      ∙ ap (λ rows. (book b.frame rows, gives done)) same

-- the refusal of a call that has nothing to tell is that of its checks
same_refusal : (r : Result (Unit {0}) Fault) (cs : List Check) → answer_of (as_done r) ≡ checked cs done
    → refusal r ≡ first_refusal cs
same_refusal (Ok u) cs given = gives_any cs done done given tt
same_refusal (Err fault) cs refused = refuses_any cs fault.refusal fault.at done refused tt

-- a call that is done is not refused
done_ok : (r : Result (Unit {0}) Fault) → answer_of (as_done r) ≡ gives done → IsOk r
done_ok (Ok u) is = refl
done_ok (Err fault) is = cc

-- a bench that was asked for a row, and from which the row has then been dismissed, by a bound of any meaning
module _ {B : Type 0} (meaning : B → Meaning) (old alone : Held B) (rank : ℕ) (r : Row) (f : Finding)
    (asked : Does (meaning old.bound) (Inquire rank) old old (FoundRow r f))
    (told : StandsAndMeets (meaning old.bound) old.book rank r (tells f))
    (reply : Reply) (dismisses : Does (meaning old.bound) (Dismiss rank) old alone reply) where
  there : StandsAt rank old.book.rows r
  there = stands_at rank old.book.rows told.above told.below r told.table told.place

  alone_is : alone ≡ bench (meaning old.bound) old.bound (without_it rank old.book)
  alone_is = dismisses.becomes
      ∙ ap (λ s. bench (meaning old.bound) old.bound s.0) (dismissed (meaning old.bound) old.book rank r there)

  -- an admission there is one on the book without the row
  admits_there : (n : Numbers) (now new : Held B) (answer : Reply) → now ≡ alone
      → Does (meaning now.bound) (Admit rank n) now new answer
      → Does (meaning old.bound) (Admit rank n)
      (bench (meaning old.bound) old.bound (without_it rank old.book)) new answer
  admits_there n now new answer same does =
      subst (λ x. Does (meaning x.bound) (Admit rank n) x new answer) (same ∙ alone_is) does

  -- what an admission without the row refuses is the refusal of an exchange
  pub answered : (n : Numbers) (new : Held B) (result : Result (Unit {0}) Fault)
      → Does (meaning alone.bound) (Admit rank n) alone new (as_done result)
      → refusal result ≡ first_refusal (exchange_checks (meaning old.bound) old.book rank n)
  answered n new result does =
      let m = meaning old.bound in
      let b = old.book in
      let cs = checks_of m (without_it rank b) (Admit rank n) in
      same_refusal result cs
      ((admits_there n alone new (as_done result) refl does).replies
      ∙ step_answers m (without_it rank b) (Admit rank n))
      ∙ sym (passes_on (not (is_rank (length b.rows) rank)) NoRank 0 (first_refusal cs) (passes m b rank r there))

  -- where the table was judged and all rows met, the row is admitted back, and the bench is as it was
  module _ (table : IsJudged old.book)
      (met : AllPass is_met (findings_of (meaning old.bound) old.book.frame old.book.rows))
      (now new : Held B) (same : now ≡ alone) (n : Numbers) (its : n ≡ plain r) (result : Result (Unit {0}) Fault)
      (does : Does (meaning now.bound) (Admit rank n) now new (as_done result)) where
    comes_back : step (meaning old.bound) (without_it rank old.book) (Admit rank n) ≡ (old.book, gives done)
    comes_back =
        ap (λ ns. step (meaning old.bound) (without_it rank old.book) (Admit rank ns)) its
        ∙ back (meaning old.bound) old.book rank r there table met

    pub is_back : IsOk result
    is_back = done_ok result ((admits_there n now new (as_done result) same does).replies ∙ ap (λ s. s.1) comes_back)

    pub as_before : new ≡ old
    as_before =
        (admits_there n now new (as_done result) same does).becomes
        ∙ ap (λ s. bench (meaning old.bound) old.bound s.0) comes_back
        ∙ sym (kept_is (meaning old.bound) rank old (FoundRow r f) asked)

-- what holds on a refusal, where there is one
pub where_refused : {P X : Type 0} (r : Result X Fault) → true ≡ is_err r → OnErr r P → P
where_refused (Ok x) refused holds = cc
where_refused (Err fault) refused holds = holds

-- what holds at all holds on a refusal
pub on_refusal : {P X : Type 0} (r : Result X Fault) → P → OnErr r P
on_refusal (Ok x) holds = tt
on_refusal (Err fault) holds = holds
