-- A list of calls played one after the other.
use Rattle.std.proofs.Common.{◌≡◌, ℕ, zero, suc, ◌+◌, ◌-◌, ◌<◌, List, [], ◌∷◌, length, get_or, take, refl, sym, ap, ◌∙◌}
use Rattle.std.proofs.Common.{subst, arith}
use Rattle.std.proofs.lemmas.List.{take_more}
use Rattle.rows.specs.Answers.{Answer}
use Rattle.bounds.specs.Meaning.{Meaning}
use Rattle.admission.specs.declared.calls.Call.{Call}
use Rattle.admission.specs.declared.calls.Reply.{Reply}
use Rattle.admission.specs.Benches.{Held, bench, Does}
use Rattle.rows.specs.Books.{Book}
use Rattle.admission.specs.Books.{step}
use Rattle.admission.specs.Replies.{Told, answer_of}
use Rattle.admission.specs.Runs.{answers_from, answers_to, book_after, book_from}
use Rattle.admission.proofs.Runs.{book_after_push}

-- the answer at a place is that to the call there, on the book that those before it have come to
answer_place : (m : Meaning) (b : Book) (calls : List Call) (i : ℕ) (d : Call) (e : Answer Told) → i < length calls
    → get_or (answers_from m b calls) i e ≡ (step m (book_from m b (take i calls)) (get_or calls i d)).1
answer_place m b [] i d e within = absurd (omega arith)
answer_place m b (c ∷ calls) zero d e within = refl
answer_place m b (c ∷ calls) (suc i) d e within = answer_place m (step m b c).0 calls i d e (omega arith)

-- one call more
module _ {B : Type 0} (meaning : B → Meaning) (bound : B) (calls : List Call) (i : ℕ) (d : Call) (now after : Held B)
    (reply : Reply) (within : i < length calls)
    (became : now ≡ bench (meaning bound) bound (book_after (meaning bound) (take i calls)))
    (does : Does (meaning now.bound) (get_or calls i d) now after reply) where
  does_so : Does (meaning bound) (get_or calls i d)
      (bench (meaning bound) bound (book_after (meaning bound) (take i calls))) after reply
  does_so = subst (λ b. Does (meaning b.bound) (get_or calls i d) b after reply) became does

  -- the bench is that of the calls with it
  pub becomes_more : after ≡ bench (meaning bound) bound (book_after (meaning bound) (take (i + 1) calls))
  becomes_more =
      does_so.becomes
      ∙ ap (bench (meaning bound) bound)
      (sym (ap (book_after (meaning bound)) (take_more calls i d within)
      ∙ book_after_push (meaning bound) (take i calls) (get_or calls i d)))

  -- the reply to a call is the answer at its place
  pub replies_more : answer_of reply ≡ get_or (answers_to (meaning bound) calls) (i - 0) (answer_of reply)
  replies_more =
      let place : i ≡ i - 0 = omega arith in
      does_so.replies
      ∙ sym (answer_place (meaning bound) (book_after (meaning bound) []) calls i d (answer_of reply) within)
      ∙ ap (λ k. get_or (answers_to (meaning bound) calls) k (answer_of reply)) place
