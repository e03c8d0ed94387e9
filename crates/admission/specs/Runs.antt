-- The book after a list of calls, and the answers to it.
use Rattle.std.specs.Prelude.{◌≡◌, List, [], ◌∷◌, ◌++◌}
use Rattle.rows.specs.Answers.{Answer}
use Rattle.rows.specs.Books.{Book}
use Rattle.bounds.specs.Meaning.{Meaning}
use Rattle.admission.specs.declared.calls.Call.{Call}
use Rattle.admission.specs.declared.calls.Reply.{Reply}
use Rattle.admission.specs.Books.{first_book, step}
use Rattle.admission.specs.Replies.{Told, answer_of}

-- the book that calls come to from another book, one after the other
abbrev pub book_from : Meaning → Book → List Call → Book
book_from m b [] = b
book_from m b (c ∷ cs) = book_from m (step m b c).0 cs

-- the answers to calls from a book on, each read on the book that those before it have come to
abbrev pub answers_from : Meaning → Book → List Call → List (Answer Told)
answers_from m b [] = []
answers_from m b (c ∷ cs) = (step m b c).1 ∷ answers_from m (step m b c).0 cs

-- the book of a new bench after a list of calls
abbrev pub book_after : Meaning → List Call → Book
book_after m calls = book_from m first_book calls

-- the answers of a new bench to a list of calls
abbrev pub answers_to : Meaning → List Call → List (Answer Told)
answers_to m calls = answers_from m first_book calls

-- a call goes on from a list of calls: the book afterwards is that of the list with the call at its end, and the reply
-- is the last answer to that list
pub record GoesOnFrom (m : Meaning) (calls : List Call) (c : Call) (new : Book) (reply : Reply) : Type 0 where
  pub book : new ≡ book_after m (calls ++ c ∷ [])
  pub answers : answers_to m (calls ++ c ∷ []) ≡ answers_to m calls ++ answer_of reply ∷ []

-- a call goes on from every list of calls that leads to the book before it
abbrev pub GoesOn : Meaning → Call → Book → Book → Reply → Type 0
GoesOn m c old new reply = (calls : List Call) → old ≡ book_after m calls → GoesOnFrom m calls c new reply
