-- What holds of a bench: of its rows, of what each call replies, and after every list of calls.
use Rattle.std.specs.Prelude.{◌≡◌, ◌≢◌, ℕ, ◌+◌, ◌-◌, ◌<◌, ◌≤◌, ◌==◌, true, false, List, [], ◌∷◌, ◌++◌, length, take}
use Rattle.std.specs.Prelude.{Some, None, Option, Ok, Err, Result, nat_lt, position, if◌then◌else◌}
use Rattle.std.specs.List.{AllPass}
use Rattle.rows.specs.declared.frames.FrameNumbers.{FrameNumbers}
use Rattle.rows.specs.declared.refusals.Refusal.{Refusal}
use Rattle.rows.specs.declared.refusals.Refusal.TheVariants.{Overload, NewcomerOverload, ShortList}
use Rattle.rows.specs.declared.tasks.Numbers.{Numbers}
use Rattle.rows.specs.declared.tasks.Row.{Row}
use Rattle.rows.specs.Answers.{Answer, Check, Passes, check, gives, refuses}
use Rattle.rows.specs.Books.{Book}
use Rattle.rows.specs.Judging.{rows_of}
use Rattle.rows.specs.Lists.{at_rank}
use Rattle.bounds.specs.Meaning.{Meaning}
use Rattle.bounds.specs.Supplied.{linear_tail}
use Rattle.findings.specs.Exact.{exact_rest}
use Rattle.findings.specs.Findings.{row_finding}
use Rattle.findings.specs.Tables.{findings_of}
use Rattle.brackets.specs.Bracketing.{IsNoLater, slow_rest}
use Rattle.admission.specs.declared.calls.Call.{Call}
use Rattle.admission.specs.declared.calls.Call.TheVariants.{Admit, Inquire}
use Rattle.admission.specs.declared.calls.Reply.{Reply}
use Rattle.admission.specs.declared.calls.Reply.TheVariants.{Found as FoundRow}
use Rattle.admission.specs.declared.unplayed.NotPlayed.{NotPlayed}
use Rattle.rows.specs.Found.{Found, is_met, is_miss, tells}
use Rattle.admission.specs.Books.{entry_checks, findings_with, step, with_newcomer}
use Rattle.admission.specs.Replies.{Told, done, tells_rank}
use Rattle.admission.specs.Runs.{book_after, answers_to}

-- what is checked of a list of calls that is to be replied to into so many places: short list
abbrev pub play_checks : List Call → ℕ → List Check
play_checks calls places = check (nat_lt places (length calls)) ShortList 0 ∷ []

-- what the playing of a list of calls refuses: nothing, or as the fault says with which the bound comes back
abbrev pub play_refusal : {X B : Type 0} → Result X (NotPlayed B) → Answer (Unit {0})
play_refusal (Ok bench) = gives tt
play_refusal (Err not_played) = refuses not_played.fault.refusal not_played.fault.at

-- a row meets by a bound of accuracy k and in exact steps: exactly it rests no later than by the bound, and by the
-- bound no later than exactly at speed k / (k + 1), where it rests at that speed
pub record MeetsByBoth (m : Meaning) (h : FrameNumbers) (r : Row) (above : List Row) : Type 0 where
  pub rest : ℕ
  pub exact : ℕ
  pub bounded : (row_finding m h r above).rest ≡ Some rest
  pub exactly : exact_rest r above ≡ Some exact
  pub order : exact ≤ rest
  pub slow : IsNoLater (Some rest) (slow_rest m.accuracy r above)

-- each row of a book meets so, below the rows before it
abbrev pub RowsMeetByBoth : Meaning → Book → Type 0
RowsMeetByBoth m b =
    (xs ys : List Row) (r : Row) → b.rows ≡ xs ++ r ∷ ys → MeetsByBoth m b.frame r xs

-- after every list of calls each row of the book meets so
abbrev pub StandingRowsMeet : Meaning → Type 0
StandingRowsMeet m = (calls : List Call) → RowsMeetByBoth m (book_after m calls)

-- a row stands at a rank of a book, what is found is its finding below the rows before it, and it meets so
pub record StandsAndMeets (m : Meaning) (b : Book) (rank : ℕ) (r : Row) (f : Found) : Type 0 where
  pub above : List Row
  pub below : List Row
  pub table : b.rows ≡ above ++ r ∷ below
  pub place : rank ≡ length above + 1
  pub finding : f ≡ row_finding m b.frame r above
  pub meets : MeetsByBoth m b.frame r above

-- where the reply to an inquiry tells a row and a finding, the row stands at the rank, the finding is its own, and it
-- meets so
abbrev pub TellsStanding : Meaning → Book → Call → Reply → Type 0
TellsStanding m b (Inquire rank) (FoundRow r finding) = StandsAndMeets m b rank r (tells finding)
TellsStanding m b c reply = Unit {0}

-- the rank at names the first row of a table that misses by a bound of accuracy k, and that row misses in exact steps
-- at speed k / (k + 1)
pub record NamesMiss (m : Meaning) (h : FrameNumbers) (rows : List Row) (at : ℕ) : Type 0 where
  pub above : List Row
  pub row : Row
  pub below : List Row
  pub table : rows ≡ above ++ row ∷ below
  pub rank : at ≡ length above + 1
  pub first : AllPass is_met (findings_of m h above)
  pub misses : (row_finding m h row above).rest ≡ None
  pub slow : slow_rest m.accuracy row above ≡ None

-- the rank at is that of the newcomer, put in at a rank of a book, and the newcomer misses there by a bound of accuracy
-- k and in exact steps at speed k / (k + 1)
pub record NamesNewcomer (m : Meaning) (b : Book) (rank : ℕ) (n : Numbers) (at : ℕ) : Type 0 where
  pub own : at ≡ rank
  pub row : Row
  pub made : rows_of (n ∷ []) ≡ row ∷ []
  pub misses : (row_finding m b.frame row (take (rank - 1) b.rows)).rest ≡ None
  pub slow : slow_rest m.accuracy row (take (rank - 1) b.rows) ≡ None

-- with the newcomer put in at a rank of a book, the rank at is the smallest at which a row misses, so by the bound and
-- at that speed; that row stood before, at a rank that was one less, and the newcomer, above it, meets by the bound
pub record NamesStanding (m : Meaning) (b : Book) (rank : ℕ) (n : Numbers) (at : ℕ) : Type 0 where
  pub miss : NamesMiss m b.frame (with_newcomer rank n b.rows) at
  pub below : rank < at
  pub stood : at_rank (at - 1) b.rows ≡ Some miss.row
  pub newcomer : Row
  pub made : rows_of (n ∷ []) ≡ newcomer ∷ []
  pub meets : is_met (row_finding m b.frame newcomer (take (rank - 1) b.rows)) ≡ true

-- an answer to a call on a book, where it refuses for newcomer overload or for overload, is that to an admit, and names
-- the newcomer, or such a row that stood before
abbrev pub OverloadMisses : Meaning → Book → Call → Answer Told → Type 0
OverloadMisses m b (Admit rank n) a =
    ((at : ℕ) → a ≡ refuses NewcomerOverload at → NamesNewcomer m b rank n at)
    × ((at : ℕ) → a ≡ refuses Overload at → NamesStanding m b rank n at)
OverloadMisses m b c a = ((at : ℕ) → a ≢ refuses NewcomerOverload at) × ((at : ℕ) → a ≢ refuses Overload at)

-- so it is with every answer, at any place of any list of calls
abbrev pub OverloadsMiss : Meaning → Type 0
OverloadsMiss m =
    (before after : List Call) (c : Call) (a : Answer Told)
    → at_rank (length before + 1) (answers_to m (before ++ c ∷ after)) ≡ Some a
    → OverloadMisses m (book_after m before) c a

-- what an admit at a rank is refused with where the first row that misses, with the newcomer in place, has the rank at:
-- newcomer overload where that is the newcomer, and else overload
abbrev pub overload_of : ℕ → ℕ → Refusal
overload_of rank at = if at == rank then NewcomerOverload else Overload

-- the answer to an admit at a rank by the place of the first miss of the table with the newcomer, if there is one
abbrev pub by_first_miss : ℕ → Option ℕ → Answer Told
by_first_miss rank None = gives done
by_first_miss rank (Some place) = refuses (overload_of rank (place + 1)) (place + 1)

-- on a book a newcomer put in at a rank leaves the rows above it met, so that the first miss of the table with it, if
-- there is one, decides the answer
pub record FirstMissDecides (m : Meaning) (b : Book) (rank : ℕ) (n : Numbers) : Type 0 where
  pub above : AllPass is_met (take (rank - 1) (findings_with m b rank n))
  pub answer : (step m b (Admit rank n)).1 ≡ by_first_miss rank (position is_miss (findings_with m b rank n))

-- so it is with every newcomer that comes through the checks before those of misses
abbrev pub FirstMissDecidesOn : Meaning → Book → Type 0
FirstMissDecidesOn m b =
    (rank : ℕ) (n : Numbers) → Passes (entry_checks b rank n) → FirstMissDecides m b rank n

-- so it is after every list of calls
abbrev pub FirstMissesDecide : Meaning → Type 0
FirstMissesDecide m = (calls : List Call) → FirstMissDecidesOn m (book_after m calls)

-- a refusal of another kind tells 0, whatever the call and the book
abbrev pub OthersTellZero : Type 0
OthersTellZero =
    (m : Meaning) (b : Book) (c : Call) (r : Refusal) (at : ℕ)
    → (step m b c).1 ≡ refuses r at → tells_rank r ≡ false → at ≡ 0

-- on a book a newcomer that is admitted at a rank by a linear tail is admitted there by every more accurate one
abbrev pub FinerAdmitsOn : Book → Type 0
FinerAdmitsOn b =
    (k k' : ℕ) → 1 ≤ k → k ≤ k' → (rank : ℕ) (n : Numbers) → (step (linear_tail k) b (Admit rank n)).1 ≡ gives done
    → (step (linear_tail k') b (Admit rank n)).1 ≡ gives done

-- on a book no row rests later by the more accurate of two linear tails
abbrev pub FinerRestsOn : Book → Type 0
FinerRestsOn b =
    (k k' : ℕ) → 1 ≤ k → k ≤ k' → (xs ys : List Row) (r : Row) → b.rows ≡ xs ++ r ∷ ys
    → IsNoLater (row_finding (linear_tail k') b.frame r xs).rest (row_finding (linear_tail k) b.frame r xs).rest

-- of two benches by linear tails whose books have come to agree, whatever lists of calls led there, the one that is at
-- least as accurate admits at each rank every newcomer that the other admits there
abbrev pub FinerAdmits : Type 0
FinerAdmits =
    (k k' : ℕ) (calls calls' : List Call) → 1 ≤ k → k ≤ k'
    → book_after (linear_tail k) calls ≡ book_after (linear_tail k') calls' → (rank : ℕ) (n : Numbers)
    → (step (linear_tail k) (book_after (linear_tail k) calls) (Admit rank n)).1 ≡ gives done
    → (step (linear_tail k') (book_after (linear_tail k') calls') (Admit rank n)).1 ≡ gives done

-- by the more accurate of two linear tails whose books agree no row rests later
abbrev pub FinerRests : Type 0
FinerRests =
    (k k' : ℕ) (calls calls' : List Call) → 1 ≤ k → k ≤ k'
    → book_after (linear_tail k) calls ≡ book_after (linear_tail k') calls' → (xs ys : List Row) (r : Row)
    → (book_after (linear_tail k) calls).rows ≡ xs ++ r ∷ ys
    → IsNoLater (row_finding (linear_tail k') (book_after (linear_tail k') calls').frame r xs).rest
    (row_finding (linear_tail k) (book_after (linear_tail k) calls).frame r xs).rest
