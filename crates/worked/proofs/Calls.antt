-- A bench by the linear tail of accuracy 2 answers the worked calls as counted by hand.
use Rattle.std.proofs.Common.{◌≡◌, List, [], ◌∷◌, refl, ap, ◌∙◌}
use Rattle.rows.specs.declared.refusals.Refusal.TheVariants.{Overload, NewcomerOverload}
use Rattle.rows.specs.Answers.{Answer, gives, refuses}
use Rattle.rows.specs.Books.{Book, book}
use Rattle.rows.specs.Frames.{frame_of}
use Rattle.rows.specs.Judging.{plain}
use Rattle.rows.proofs.SameRow.{row_of_plain}
use Rattle.bounds.specs.Instants.{least, count}
use Rattle.bounds.specs.Supplied.{linear_tail}
use Rattle.findings.specs.Findings.{first_rest, stop, points}
use Rattle.admission.specs.declared.calls.Call.{Call}
use Rattle.admission.specs.declared.calls.Call.TheVariants.{Frame, Admit, Dismiss, Inquire}
use Rattle.admission.specs.Books.{first_book, step}
use Rattle.admission.specs.Replies.{Told, done, row_found}
use Rattle.admission.specs.Runs.{book_from, answers_from}
use Rattle.worked.specs.Table.{meets, row_a, row_b, row_e, row_g, worked_calls}

-- calls from a book on come to another book, with these answers
pub record Comes (b : Book) (calls : List Call) (end : Book) (answers : List (Answer Told)) : Type 0 where
  pub books : book_from (linear_tail 2) b calls ≡ end
  pub answered : answers_from (linear_tail 2) b calls ≡ answers

-- what the first call does, and then those after it
then : {b next end : Book} {c : Call} {calls : List Call} {a : Answer Told} {answers : List (Answer Told)}
    → step (linear_tail 2) b c ≡ (next, a) → Comes next calls end answers → Comes b (c ∷ calls) end (a ∷ answers)
then {calls = calls} {a = a} first later = record {
  books = ap (λ s. book_from (linear_tail 2) s.0 calls) first ∙ later.books;
  answered = ap (λ s. s.1 ∷ answers_from (linear_tail 2) s.0 calls) first ∙ ap (λ more. a ∷ more) later.answered;
}

-- the books that the calls come to
abbrev empty : Book
empty = book (frame_of 12) []

abbrev with_a : Book
with_a = book (frame_of 12) (row_a ∷ [])

abbrev with_ab : Book
with_ab = book (frame_of 12) (row_a ∷ row_b ∷ [])

abbrev with_b : Book
with_b = book (frame_of 12) (row_b ∷ [])

abbrev with_be : Book
with_be = book (frame_of 12) (row_b ∷ row_e ∷ [])

frame_set : step (linear_tail 2) first_book (Frame (frame_of 12)) ≡ (empty, gives done)
frame_set = refl

a_admitted : step (linear_tail 2) empty (Admit 1 (plain row_a)) ≡ (with_a, gives done)
unfolding least count first_rest stop points
a_admitted = rw (row_of_plain row_a, row_of_plain row_a) refl

b_admitted : step (linear_tail 2) with_a (Admit 2 (plain row_b)) ≡ (with_ab, gives done)
unfolding least count first_rest stop points
b_admitted = rw (row_of_plain row_b, row_of_plain row_b) refl

e_refused : step (linear_tail 2) with_ab (Admit 3 (plain row_e)) ≡ (with_ab, refuses NewcomerOverload 3)
unfolding least count first_rest stop points
e_refused = rw (row_of_plain row_e) refl

a_dismissed : step (linear_tail 2) with_ab (Dismiss 1) ≡ (with_b, gives done)
a_dismissed = refl

e_admitted : step (linear_tail 2) with_b (Admit 2 (plain row_e)) ≡ (with_be, gives done)
unfolding least count first_rest stop points
e_admitted = rw (row_of_plain row_e, row_of_plain row_e) refl

e_told : step (linear_tail 2) with_be (Inquire 2) ≡ (with_be, gives (row_found (plain row_e) (meets 5 1)))
unfolding least count first_rest stop points
e_told = refl

g_crowds : step (linear_tail 2) with_be (Admit 1 (plain row_g)) ≡ (with_be, refuses Overload 2)
unfolding least count first_rest stop points
g_crowds = rw (row_of_plain row_g) refl

g_refused : step (linear_tail 2) with_be (Admit 2 (plain row_g)) ≡ (with_be, refuses NewcomerOverload 2)
unfolding least count first_rest stop points
g_refused = rw (row_of_plain row_g) refl

-- the answers to the calls, and the book that they come to
pub calls_come : Comes first_book worked_calls with_be
    (gives done ∷ gives done ∷ gives done ∷ refuses NewcomerOverload 3 ∷ gives done ∷ gives done
    ∷ gives (row_found (plain row_e) (meets 5 1)) ∷ refuses Overload 2 ∷ refuses NewcomerOverload 2 ∷ [])
calls_come =
    then frame_set
    (then a_admitted
    (then b_admitted
    (then e_refused
    (then a_dismissed
    (then e_admitted
    (then e_told
    (then g_crowds
    (then g_refused (record { books = refl; answered = refl })))))))))
