-- The book of a bench, the frame and the rows in rank order that its calls have come to; and a call on it.
use Rattle.std.specs.Prelude.{ℕ, ◌+◌, ◌-◌, Bool, false, List, [], ◌∷◌, ◌++◌, length, take, drop, nat_lt}
use Rattle.std.specs.Prelude.{if◌then◌else◌}
use Rattle.std.specs.Option.{option_map, unwrap_or}
use Rattle.rows.specs.declared.refusals.Refusal.TheVariants.{StandingRows, Overload, NewcomerOverload}
use Rattle.rows.specs.declared.tasks.Numbers.{Numbers}
use Rattle.rows.specs.declared.tasks.Row.{Row}
use Rattle.rows.specs.Answers.{Answer, gives, refuses, Check, check, check_places, checked}
use Rattle.rows.specs.Books.{Book, book, place_checks}
use Rattle.rows.specs.Frames.{frame_checks, frame_of}
use Rattle.rows.specs.Judging.{plain, rows_of, frame_flaws, flaw_checks}
use Rattle.rows.specs.Lists.{at_rank}
use Rattle.rows.specs.Ranks.{rank_checks}
use Rattle.bounds.specs.Meaning.{Meaning}
use Rattle.rows.specs.Found.{Found, is_miss}
use Rattle.findings.specs.Findings.{row_finding}
use Rattle.findings.specs.Tables.{findings_of}
use Rattle.admission.specs.declared.calls.Call.{Call}
use Rattle.admission.specs.declared.calls.Call.TheVariants.{Frame, Admit, Dismiss, Inquire}
use Rattle.admission.specs.Replies.{Told, done, row_found}

-- the book of a new bench: frame 1 and no row
abbrev pub first_book : Book
first_book = book (frame_of 1) []

-- the rows with the row of four numbers put in at a rank; those from there on move down
abbrev pub with_newcomer : ℕ → Numbers → List Row → List Row
with_newcomer rank n rows = take (rank - 1) rows ++ (rows_of (n ∷ []) ++ drop (rank - 1) rows)

-- a list without the element at a rank, as rows of which one is dismissed; those below it move up
abbrev pub without : {X : Type 0} → ℕ → List X → List X
without rank xs = take (rank - 1) xs ++ drop rank xs

-- what is found about a book's rows with the newcomer in place, in rank order
abbrev pub findings_with : Meaning → Book → ℕ → Numbers → List Found
findings_with m b rank n = findings_of m b.frame (with_newcomer rank n b.rows)

-- what is checked of an admit but for the misses, in order: the flaws of the four numbers on the book's frame; full
-- table; no rank
abbrev pub entry_checks : Book → ℕ → Numbers → List Check
entry_checks b rank n = flaw_checks (frame_flaws b.frame) n 0 ++ place_checks (length b.rows) rank

-- whether a finding that is a miss stands at a rank
abbrev pub misses_at : ℕ → List Found → Bool
misses_at rank fs = unwrap_or (option_map is_miss (at_rank rank fs)) false

-- whether the newcomer itself misses: newcomer overload, which tells its rank
abbrev pub newcomer_check : Meaning → Book → ℕ → Numbers → Check
newcomer_check m b rank n = check (misses_at rank (findings_with m b rank n)) NewcomerOverload rank

-- the rank, with a newcomer put in at a rank, of the row that stood at a place, places being counted from 0: those from
-- the rank on moved down
abbrev pub rank_with : ℕ → ℕ → ℕ
rank_with rank place = if nat_lt (place + 1) rank then place + 1 else place + 2

-- whether a row that stood before misses with the newcomer in place: overload, which tells the smallest rank, with the
-- newcomer in place, of such a row
abbrev pub overload_check : Meaning → Book → ℕ → Numbers → Check
overload_check m b rank n = check_places is_miss Overload (rank_with rank) (without rank (findings_with m b rank n))

-- what is checked of a newcomer's place at the end: whether it misses, and then whether a row that stood before does
abbrev pub miss_checks : Meaning → Book → ℕ → Numbers → List Check
miss_checks m b rank n = newcomer_check m b rank n ∷ overload_check m b rank n ∷ []

-- what is checked of a call on a book, in order
abbrev pub checks_of : Meaning → Book → Call → List Check
checks_of m b (Frame h) = frame_checks h ++ check (nat_lt 0 (length b.rows)) StandingRows 0 ∷ []
checks_of m b (Admit rank n) = entry_checks b rank n ++ miss_checks m b rank n
checks_of m b (Dismiss rank) = rank_checks (length b.rows) rank
checks_of m b (Inquire rank) = rank_checks (length b.rows) rank

-- the book once a call on it is done
abbrev pub once_done : Book → Call → Book
once_done b (Frame h) = book h b.rows
once_done b (Admit rank n) = book b.frame (with_newcomer rank n b.rows)
once_done b (Dismiss rank) = book b.frame (without rank b.rows)
once_done b (Inquire rank) = b

-- what is told of a row at a rank of a book: its numbers, and its finding by the bound below the rows before it
abbrev pub found_at : Meaning → Book → ℕ → Row → Told
found_at m b rank r = row_found (plain r) (row_finding m b.frame r (take (rank - 1) b.rows))

-- what a call on a book tells where it is not refused: inquire the row at its rank with its finding; every other call
-- that it is done
abbrev pub told : Meaning → Book → Call → Told
told m b (Inquire rank) = unwrap_or (option_map (found_at m b rank) (at_rank rank b.rows)) done
told m b _ = done

-- a call on a book: the book afterwards, which a refused call leaves, and the answer
abbrev pub step : Meaning → Book → Call → Book × Answer Told
step m b c = stepped (checked (checks_of m b c) (told m b c))
  where
    stepped : Answer Told → Book × Answer Told
    stepped (gives x) = (once_done b c, gives x)
    stepped (refuses n at) = (b, refuses n at)
