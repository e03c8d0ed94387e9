-- Lists of calls, one after the other.
use Rattle.std.proofs.Common.{◌≡◌, suc, List, [], ◌∷◌, ◌++◌, length, refl, sym, ap, ◌∙◌}
use Rattle.bounds.specs.Meaning.{Meaning}
use Rattle.admission.specs.declared.calls.Call.{Call}
use Rattle.admission.specs.declared.calls.Reply.{Reply}
use Rattle.admission.specs.Benches.{Held, Does}
use Rattle.rows.specs.Books.{Book}
use Rattle.admission.specs.Books.{first_book, step}
use Rattle.admission.specs.Runs.{book_from, answers_from, book_after, answers_to, GoesOn}

module _ (m : Meaning) where
  -- more calls go on from the book that the first have come to
  pub book_from_append : (b : Book) (xs ys : List Call) → book_from m b (xs ++ ys) ≡ book_from m (book_from m b xs) ys
  book_from_append b [] ys = refl
  book_from_append b (c ∷ xs) ys = book_from_append (step m b c).0 xs ys

  -- the answers to more calls go on from the book that the first have come to
  pub answers_from_append : (b : Book) (xs ys : List Call)
      → answers_from m b (xs ++ ys) ≡ answers_from m b xs ++ answers_from m (book_from m b xs) ys
  answers_from_append b [] ys = refl
  answers_from_append b (c ∷ xs) ys = ap (λ more. (step m b c).1 ∷ more) (answers_from_append (step m b c).0 xs ys)

  -- there is an answer to each call
  pub length_answers_from : (b : Book) (calls : List Call) → length (answers_from m b calls) ≡ length calls
  length_answers_from b [] = refl
  length_answers_from b (c ∷ calls) = ap suc (length_answers_from (step m b c).0 calls)

  -- the book after one more call
  pub book_after_push : (calls : List Call) (c : Call)
      → book_after m (calls ++ c ∷ []) ≡ (step m (book_after m calls) c).0
  book_after_push calls c = book_from_append first_book calls (c ∷ [])

  -- to a list of calls there are as many answers as calls
  pub length_answers_to : (calls : List Call) → length (answers_to m calls) ≡ length calls
  length_answers_to calls = length_answers_from first_book calls

  -- a call that does what the book says goes on from every list of calls that leads to the book
  pub goes_on : {B : Type 0} {c : Call} {old new : Held B} {reply : Reply} → Does m c old new reply
      → GoesOn m c old.book new.book reply
  goes_on {B} {c} {old} {new} {reply} does calls led =
      record {
        book = ap (λ b. b.book) does.becomes ∙ ap (λ b. (step m b c).0) led ∙ sym (book_after_push calls c);
        answers = answers_from_append first_book calls (c ∷ [])
            ∙ ap (λ a. answers_to m calls ++ a ∷ []) (sym (does.replies ∙ ap (λ b. (step m b c).1) led));
      }
