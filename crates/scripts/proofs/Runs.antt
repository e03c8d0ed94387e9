-- A run: bytes played block by block, and where it may end.
use Rattle.std.proofs.Common.{◌≡◌, ℕ, List, [], ◌∷◌, ◌++◌, Option, None, Some, Result, Ok, Err, OnOk, IfErr, refl, sym}
use Rattle.std.proofs.Common.{ap, subst, ◌∙◌, append_assoc, append-nil}
use Rattle.std.proofs.KnownBytes.{Appends-trans, Appends-kept, Consumes-trans, Consumes-kept}
use Rattle.std.specs.Io.KnownBytes.{Appends, Consumes, IsAtEnd}
use Rattle.std.specs.declared.io.Error.{Error}
use Rattle.streams.specs.declared.failures.Failure.{Failure}
use Rattle.streams.specs.declared.failures.Failure.TheVariants.{Reading, Writing}
use Rattle.scripts.specs.Blocks.{PlayedOn, FailsBlock, FailsEnd}
use Rattle.scripts.specs.PlayState.{PlayState, first_progress, after_byte, written_for_byte, after_bytes}
use Rattle.scripts.specs.PlayState.{written_for_bytes, written_last}
use Rattle.streams.specs.Held.{MayHold}
use Rattle.scripts.specs.Runs.{script_output, ended_output, Plays, HasPlayed, BeginsToPlay}
use Rattle.scripts.specs.Written.{Begun}
use Rattle.scripts.proofs.Agreeing.{first_output, whole_output}
use Rattle.scripts.proofs.Beginnings.{Begun-all, Begun-longer, Begun-after}

after-append : (p : PlayState) (xs ys : List ℕ) → after_bytes p (xs ++ ys) ≡ after_bytes (after_bytes p xs) ys
after-append p [] ys = refl
after-append p (x ∷ xs) ys = after-append (after_byte p x) xs ys

written-append : (p : PlayState) (xs ys : List ℕ)
    → written_for_bytes p (xs ++ ys) ≡ written_for_bytes p xs ++ written_for_bytes (after_bytes p xs) ys
written-append p [] ys = refl
written-append p (x ∷ xs) ys =
    ap (λ t. written_for_byte p x ++ t) (written-append (after_byte p x) xs ys)
    ∙ sym (append_assoc (written_for_byte p x) (written_for_bytes (after_byte p x) xs)
    (written_for_bytes (after_bytes (after_byte p x) xs) ys))

-- one block more
pub PlayedOn-more : (p q r : PlayState) (a b c u v w : Option (List ℕ)) → PlayedOn p q a b u v → PlayedOn q r b c v w
    → PlayedOn p r a c u w
PlayedOn-more p q r a b c u v w before now = record {
  bytes = before.bytes ++ now.bytes;
  read = Consumes-trans a b c before.bytes now.bytes before.read now.read;
  played = now.played ∙ ap (λ x. after_bytes x now.bytes) before.played ∙ sym (after-append p before.bytes now.bytes);
  written = subst (Appends u w)
      (ap (λ x. written_for_bytes p before.bytes ++ written_for_bytes x now.bytes) before.played
      ∙ sym (written-append p before.bytes now.bytes))
      (Appends-trans u v w _ _ before.written now.written);
}

-- a beginning of what is written for some bytes is one of what is written for a script that begins with them
begun_of : (a b : Option (List ℕ)) (taken rest : List ℕ) → Begun a b (written_for_bytes first_progress taken)
    → Begun a b (script_output (taken ++ rest))
begun_of a b taken rest begun =
    let more = written_for_bytes (after_bytes first_progress taken) rest in
    let last = written_last (after_bytes first_progress (taken ++ rest)) in
    subst (Begun a b)
    (ap (λ x. x ++ last) (sym (written-append first_progress taken rest)) ∙ sym (whole_output (taken ++ rest)))
    (Begun-longer a b (written_for_bytes first_progress taken ++ more) last
    (Begun-longer a b (written_for_bytes first_progress taken) more begun))

-- what was written is a beginning of what is written for all that the reader held
pub begins : (held left a b : Option (List ℕ)) (taken : List ℕ) → Consumes held left taken
    → Begun a b (written_for_bytes first_progress taken) → BeginsToPlay held a b
begins None left a b taken read begun =
    record {
      bytes = taken;
      all = tt;
      begun =
          subst (λ x. Begun a b (script_output x)) (append-nil taken) (begun_of a b taken [] begun);
    }
begins (Some xs) None a b taken read begun = absurd read
begins (Some xs) (Some ys) a b taken read begun =
    record { bytes = taken ++ ys; all = sym read; begun = begun_of a b taken ys begun }

-- all was read, where the reader is at its end
all_read : (held left : Option (List ℕ)) (taken : List ℕ) → Consumes held left taken → IsAtEnd left → MayHold held taken
all_read None left taken read end = tt
all_read (Some xs) None taken read end = absurd read
all_read (Some xs) (Some ys) taken read end = sym (read ∙ ap (λ l. taken ++ l) end ∙ append-nil taken)

module _ (p : PlayState) (held left a b : Option (List ℕ)) (so_far : PlayedOn first_progress p held left a b) where
  -- what is written for all that was read, where p has some bytes written behind what is written so far
  all_of : (bytes : List ℕ) → written_for_bytes first_progress so_far.bytes ++ written_for_bytes p bytes
      ≡ written_for_bytes first_progress (so_far.bytes ++ bytes)
  all_of bytes =
      ap (λ x. written_for_bytes first_progress so_far.bytes ++ written_for_bytes x bytes) so_far.played
      ∙ sym (written-append first_progress so_far.bytes bytes)

  -- what is written for all that was read, where the input ends
  all_at_end : written_for_bytes first_progress so_far.bytes ++ written_last p ≡ script_output so_far.bytes
  all_at_end =
      ap (λ x. written_for_bytes first_progress so_far.bytes ++ written_last x) so_far.played
      ∙ sym (whole_output so_far.bytes)

  -- every line that has ended is answered
  ended : Appends a b (ended_output so_far.bytes)
  ended = subst (Appends a b) (first_output so_far.bytes) so_far.written

  -- a run whose lines are all answered may end in an error of reading
  pub stopped : (e : Error) → HasPlayed (Reading e) held left a b
  stopped e = (so_far.bytes, so_far.read, ended)

  pub stopped_begins : BeginsToPlay held a b
  stopped_begins = begins held left a b so_far.bytes so_far.read (Begun-all a b _ so_far.written)

  -- or a block may fail
  module _ (left' c : Option (List ℕ)) where
    pub block_failed : (f : Failure) → FailsBlock f p left left' b c → HasPlayed f held left' a c
    block_failed (Reading e) fails = (
      so_far.bytes,
      Consumes-kept held left left' so_far.bytes so_far.read fails.0,
      Appends-kept a b c (ended_output so_far.bytes) ended fails.1,
    )
    block_failed (Writing e) fails =
        let taken = so_far.bytes ++ fails.0 in
        let begun = subst (Begun a c) (all_of fails.0) (Begun-after a b c _ _ so_far.written fails.2) in (
          taken,
          Consumes-trans held left left' so_far.bytes fails.0 so_far.read fails.1,
          subst (λ x. Begun a c (script_output x)) (append-nil taken) (begun_of a c taken [] begun),
        )

    pub block_begins : (f : Failure) → FailsBlock f p left left' b c → BeginsToPlay held a c
    block_begins (Reading e) fails =
        begins held left' a c so_far.bytes (Consumes-kept held left left' so_far.bytes so_far.read fails.0)
        (Begun-all a c _ (Appends-kept a b c _ so_far.written fails.1))
    block_begins (Writing e) fails =
        begins held left' a c (so_far.bytes ++ fails.0)
        (Consumes-trans held left left' so_far.bytes fails.0 so_far.read fails.1)
        (subst (Begun a c) (all_of fails.0) (Begun-after a b c _ _ so_far.written fails.2))

  -- or the input ends
  module _ (end : IsAtEnd left) (c : Option (List ℕ)) where
    whole : Appends b c (written_last p) → Plays held left a c
    whole put = record {
      bytes = so_far.bytes;
      all = all_read held left so_far.bytes so_far.read end;
      end = end;
      written = subst (Appends a c) all_at_end (Appends-trans a b c _ _ so_far.written put);
    }

    part : Begun b c (written_last p) → Begun a c (script_output so_far.bytes)
    part begun = subst (Begun a c) all_at_end (Begun-after a b c _ _ so_far.written begun)

    pub end_played : (r : Result (Unit {0}) Failure) → OnOk r (Appends b c (written_last p))
        → OnOk r (Plays held left a c)
    end_played (Ok u) put = whole put
    end_played (Err f) put = tt

    pub end_failed : (r : Result (Unit {0}) Failure) → IfErr r (λ f. FailsEnd f p b c)
        → IfErr r (λ f. HasPlayed f held left a c)
    end_failed (Ok u) fails = tt
    end_failed (Err (Reading e)) fails = absurd fails
    end_failed (Err (Writing e)) fails = (so_far.bytes, so_far.read, part fails)

    pub end_begins : (r : Result (Unit {0}) Failure) → OnOk r (Appends b c (written_last p))
        → IfErr r (λ f. FailsEnd f p b c)
        → BeginsToPlay held a c
    end_begins (Ok u) put fails =
        let w = whole put in
        record { bytes = w.bytes; all = w.all; begun = Begun-all a c _ w.written }
    end_begins (Err (Reading e)) put fails = absurd fails
    end_begins (Err (Writing e)) put fails =
        record { bytes = so_far.bytes; all = all_read held left so_far.bytes so_far.read end; begun = part fails }
