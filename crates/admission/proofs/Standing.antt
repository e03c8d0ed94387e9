-- What the standing rows keep.
use Rattle.std.proofs.Common.{◌≡◌, ℕ, ◌-◌, true, not, List, ◌∷◌, ◌++◌, length, take, drop, is_some, Some}
use Rattle.std.proofs.Common.{None, Option, refl, sym, ap, ◌∙◌, subst, arith}
use Rattle.std.specs.Option.{option_map, unwrap_or}
use Rattle.std.proofs.lemmas.List.{length-take-le}
use Rattle.rows.specs.declared.frames.FrameNumbers.{FrameNumbers}
use Rattle.rows.specs.declared.refusals.Refusal.TheVariants.{NoRank}
use Rattle.rows.specs.declared.tasks.Row.{Row}
use Rattle.rows.specs.declared.verdicts.Finding.{Finding}
use Rattle.rows.specs.Answers.{checked, gives}
use Rattle.rows.specs.Books.{Book}
use Rattle.rows.specs.Found.{tells}
use Rattle.rows.specs.Judging.{plain}
use Rattle.rows.specs.Ranks.{is_rank}
use Rattle.rows.proofs.Checks.{first_passes, given_is}
use Rattle.rows.proofs.Ranked.{rank_within}
use Rattle.rows.proofs.SameRow.{same_row}
use Rattle.bounds.specs.Laws.{Laws}
use Rattle.bounds.specs.Meaning.{Meaning}
use Rattle.findings.specs.Exact.{exact_rest}
use Rattle.findings.specs.Findings.{row_finding}
use Rattle.brackets.specs.Bracketing.{IsNoLater, LiesBetween, slow_rest}
use Rattle.brackets.proofs.Bracket.{brackets}
use Rattle.admission.specs.declared.calls.Call.{Call}
use Rattle.admission.specs.declared.calls.Call.TheVariants.{Frame, Admit, Dismiss, Inquire}
use Rattle.admission.specs.declared.calls.Reply.{Reply}
use Rattle.admission.specs.declared.calls.Reply.TheVariants.{Done, Found as FoundRow, Refused}
use Rattle.admission.specs.Benches.{Held, Does}
use Rattle.admission.specs.Books.{checks_of, step, told}
use Rattle.admission.specs.Promises.{MeetsByBoth, RowsMeetByBoth, StandingRowsMeet, StandsAndMeets, TellsStanding}
use Rattle.admission.specs.Replies.{answer_of, done, row_found}
use Rattle.admission.specs.Runs.{book_after}
use Rattle.admission.proofs.Findings.{each_meets}
use Rattle.admission.proofs.Places.{at_there}
use Rattle.admission.proofs.Steps.{Sound, parts_at, stands_before, step_answers, runs_sound}

-- a row that meets by a bound whose first rest lies between those in exact steps meets by both
meets_by_both : (m : Meaning) (h : FrameNumbers) (r : Row) (above : List Row)
    → LiesBetween m.accuracy r above (row_finding m h r above).rest → is_some (row_finding m h r above).rest ≡ true
    → MeetsByBoth m h r above
meets_by_both m h r above between met =
    by (row_finding m h r above).rest (exact_rest r above) refl refl met between.exact
  where
    by : (bounded exact : Option ℕ) → (row_finding m h r above).rest ≡ bounded → exact_rest r above ≡ exact
        → is_some bounded ≡ true → IsNoLater exact bounded → MeetsByBoth m h r above
    by None exact bounds is met order = cc
    by (Some t) None bounds is met order = absurd order
    by (Some t) (Some s) bounds is met order =
        record {
          rest = t;
          exact = s;
          bounded = bounds;
          exactly = is;
          order = order;
          slow = subst (λ o. IsNoLater o (slow_rest m.accuracy r above)) bounds between.slow;
        }

-- where a book is sound, each of its rows meets by both
pub rows_meet : (m : Meaning) → Laws m → (b : Book) → Sound m b → RowsMeetByBoth m b
rows_meet m laws b sound xs ys r split =
    let between = brackets laws b.frame r xs (stands_before b.frame.ticks b.rows xs (r ∷ ys) sound.stand split) in
    meets_by_both m b.frame r xs between (each_meets m b.frame b.rows sound.meet xs ys r split)

-- so it is after every list of calls
pub standing_rows_meet : (m : Meaning) → Laws m → StandingRowsMeet m
standing_rows_meet m laws calls = rows_meet m laws (book_after m calls) (runs_sound m calls)

-- the row that is told to who inquires at a rank of a sound book stands there and meets by both
row_told : (m : Meaning) → Laws m → (b : Book) → Sound m b → (rank : ℕ) (r : Row) (f : Finding)
    → gives (row_found (plain r) (tells f)) ≡ (step m b (Inquire rank)).1 → StandsAndMeets m b rank r (tells f)
row_told m laws b sound rank r f answered =
    let cs = checks_of m b (Inquire rank) in
    let given : gives (row_found (plain r) (tells f)) ≡ checked cs (told m b (Inquire rank)) =
    answered ∙ step_answers m b (Inquire rank) in
    let within = rank_within (length b.rows) rank
    (first_passes (not (is_rank (length b.rows) rank)) NoRank 0 (row_found (plain r) (tells f))
    (gives (told m b (Inquire rank))) given).0 in
    let above = take (rank - 1) b.rows in
    let parts = parts_at rank b.rows within.0 within.1 in
    let place = length-take-le (rank - 1) b.rows (omega (arith, within.1)) in
    let there = at_there rank b.rows above (drop rank b.rows) parts.0 within.0 place parts.1 in
    let about = row_finding m b.frame parts.0 above in
    let tells_so : row_found (plain r) (tells f) ≡ row_found (plain parts.0) about =
    given_is cs (row_found (plain r) (tells f)) (told m b (Inquire rank)) given
    ∙ ap (λ o. unwrap_or (option_map (λ s. row_found (plain s) (row_finding m b.frame s above)) o) done) there in
    let numbers : plain r ≡ plain parts.0 = cc in
    let found : tells f ≡ about = cc in
    let same : r ≡ parts.0 = same_row r parts.0 numbers in
    let table = subst (λ s. b.rows ≡ above ++ s ∷ drop rank b.rows) (sym same) parts.1 in
    record {
      above = above;
      below = drop rank b.rows;
      table = table;
      place = omega (arith, place, within.0);
      finding = found ∙ ap (λ s. row_finding m b.frame s above) (sym same);
      meets = rows_meet m laws b sound above (drop rank b.rows) r table;
    }

-- what a sound book answers tells such a row, where it tells one
pub tells_standing : (m : Meaning) → Laws m → (b : Book) → Sound m b → (c : Call) (reply : Reply)
    → answer_of reply ≡ (step m b c).1 → TellsStanding m b c reply
tells_standing m laws b sound (Inquire rank) (FoundRow r f) answered = row_told m laws b sound rank r f answered
tells_standing m laws b sound (Inquire rank) Done answered = tt
tells_standing m laws b sound (Inquire rank) (Refused fault) answered = tt
tells_standing m laws b sound (Frame h) reply answered = tt
tells_standing m laws b sound (Admit rank n) reply answered = tt
tells_standing m laws b sound (Dismiss rank) reply answered = tt

-- so does the reply of a call that does what the book says
pub told_so : {B : Type 0} {m : Meaning} {c : Call} {old new : Held B} {reply : Reply} → Laws m → Sound m old.book
    → Does m c old new reply → TellsStanding m old.book c reply
told_so {B} {m} {c} {old} {new} {reply} laws sound does =
    tells_standing m laws old.book sound c reply does.replies
