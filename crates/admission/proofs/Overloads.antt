-- What a refusal for overload names.
use Rattle.std.proofs.Common.{◌≡◌, ◌≢◌, ℕ, suc, ◌+◌, ◌-◌, ◌<◌, ◌≤◌, Bool, true, false, eqb, List, [], ◌∷◌, ◌++◌}
use Rattle.std.proofs.Common.{length, take, drop, get_or, Some, None, Option, sym, refl, ap, ◌∙◌, subst, arith}
use Rattle.std.proofs.Common.{if◌then◌else◌, position}
use Rattle.std.specs.Option.{option_map}
use Rattle.std.specs.List.{AllPass, list_all}
use Rattle.std.proofs.lemmas.Bool.{eq-eqb, eqb-true, not-false}
use Rattle.std.proofs.lemmas.List.{append-nil, drop_at, get_or_append_left, get_or_at, length-take-le}
use Rattle.std.proofs.lemmas.List.{take-append-drop, take_at}
use Rattle.std.proofs.lemmas.List.Quantifiers.{position-Some}
use Rattle.rows.specs.declared.refusals.Refusal.{Refusal}
use Rattle.rows.specs.declared.refusals.Refusal.TheVariants.{Overload, NewcomerOverload}
use Rattle.rows.specs.declared.frames.FrameNumbers.{FrameNumbers}
use Rattle.rows.specs.declared.tasks.Numbers.{Numbers}
use Rattle.rows.specs.declared.tasks.Row.{Row}
use Rattle.rows.specs.Answers.{Answer, refuses, checked}
use Rattle.rows.specs.Lists.{first_of, at_rank}
use Rattle.bounds.specs.Laws.{Laws}
use Rattle.bounds.specs.Meaning.{Meaning}
use Rattle.findings.specs.Countable.{StandOn}
use Rattle.findings.specs.Findings.{row_finding}
use Rattle.findings.specs.Tables.{findings_below, findings_of}
use Rattle.findings.proofs.Tables.{length_findings_below}
use Rattle.brackets.proofs.Bracket.{brackets}
use Rattle.admission.specs.declared.calls.Call.{Call}
use Rattle.admission.specs.declared.calls.Call.TheVariants.{Frame, Admit, Dismiss, Inquire}
use Rattle.rows.specs.Found.{is_met, is_miss}
use Rattle.rows.specs.Books.{Book}
use Rattle.admission.specs.declared.calls.Reply.{Reply}
use Rattle.admission.specs.Benches.{Held, Does}
use Rattle.admission.specs.Books.{checks_of, entry_checks, findings_with, first_book, miss_checks, step, told}
use Rattle.admission.specs.Books.{with_newcomer}
use Rattle.admission.specs.Promises.{by_first_miss, overload_of, FirstMissDecidesOn, FirstMissesDecide, NamesMiss}
use Rattle.admission.specs.Promises.{NamesNewcomer, NamesStanding, OverloadMisses, OverloadsMiss}
use Rattle.admission.specs.Replies.{Told, answer_of, done}
use Rattle.admission.specs.Runs.{book_after, answers_to, answers_from}
use Rattle.admission.proofs.Decided.{after, before, first_with, its_own, parts, place, rows_part}
use Rattle.admission.proofs.Entry.{Enters, enters, is_not_of, left_to}
use Rattle.admission.proofs.Findings.{findings_append, finding_there}
use Rattle.admission.proofs.Places.{at_there, moved_down}
use Rattle.admission.proofs.Runs.{answers_from_append, length_answers_to}
use Rattle.admission.proofs.Steps.{Sound, first_miss, meet_before, step_answers, stands_before, stands_with, runs_sound}
use Rattle.admission.proofs.Steps.{parts_at}

-- a miss has no first rest
no_rest : (o : Option ℕ) (points : ℕ) → is_miss (record { rest = o; points = points }) ≡ true → o ≡ None
no_rest None points miss = refl
no_rest (Some t) points miss = cc

module _ (m : Meaning) (h : FrameNumbers) where
  -- where a first finding is a miss, all before it are met
  met_before : (xs ys : List Row) (r : Row) → position is_miss (findings_of m h (xs ++ r ∷ ys)) ≡ Some (length xs)
      → AllPass is_met (findings_of m h xs)
  met_before xs ys r first = λ k d within.
      let all = findings_of m h (xs ++ r ∷ ys) in
      let there = findings_below m h xs (r ∷ ys) in
      let before = (position-Some is_miss all (length xs) d first).2 k
      (omega (arith, within, length_findings_below m h [] xs)) in
      let same = ap (λ fs. get_or fs k d) (findings_append m h [] xs (r ∷ ys))
      ∙ get_or_append_left (findings_of m h xs) there d k within in
      ap is_met (sym same) ∙ not-false (is_met (get_or all k d)) before

  -- where a first finding is a miss, its row misses
  misses_there : (xs ys : List Row) (r : Row) → position is_miss (findings_of m h (xs ++ r ∷ ys)) ≡ Some (length xs)
      → (row_finding m h r xs).rest ≡ None
  misses_there xs ys r first =
      let f = row_finding m h r xs in
      no_rest f.rest f.points
      (ap is_miss (sym (finding_there m h xs ys r f))
      ∙ (position-Some is_miss (findings_of m h (xs ++ r ∷ ys)) (length xs) f first).1)

  -- the place of the first miss names a row that misses
  names_miss : Laws m → (rows : List Row) (i : ℕ) → StandOn h.ticks rows
      → position is_miss (findings_of m h rows) ≡ Some i → NamesMiss m h rows (i + 1)
  names_miss laws rows i stand first =
      let within : i < length rows =
      omega (
        arith,
        (position-Some is_miss (findings_of m h rows) i (record { rest = None; points = 0 }) first).0,
        length_findings_below m h [] rows,
      ) in
      let parts = parts_at (i + 1) rows (omega arith) (omega arith) in
      let above = take (i + 1 - 1) rows in
      let below = drop (i + 1) rows in
      let place : length above ≡ i = omega (arith, length-take-le (i + 1 - 1) rows (omega arith)) in
      let there : position is_miss (findings_of m h (above ++ parts.0 ∷ below)) ≡ Some (length above) =
      ap (λ rs. position is_miss (findings_of m h rs)) (sym parts.1) ∙ first ∙ ap Some (sym place) in
      let misses = misses_there above below parts.0 there in
      record {
        above = above;
        row = parts.0;
        below = below;
        table = parts.1;
        rank = ap (λ n. n + 1) (sym place);
        first = met_before above below parts.0 there;
        misses = misses;
        slow = (brackets laws h parts.0 above (stands_before h.ticks rows above (parts.0 ∷ below) stand parts.1)).misses
            misses;
      }

-- a call none of whose checks is for a refusal is not refused with it
no_refusal : (m : Meaning) (b : Book) (c : Call) (a : Answer Told) (r : Refusal)
    → list_all (is_not_of {A = Told} (refuses r 0)) (checks_of m b c) ≡ true → a ≡ (step m b c).1
    → (at : ℕ) → a ≢ refuses r at
no_refusal m b c a r others answered = λ at is. let end =
    (left_to (checks_of m b c) [] (refuses r at) (told m b c) others
    (sym is ∙ answered ∙ step_answers m b c
    ∙ ap (λ cs. checked cs (told m b c)) (sym (append-nil (checks_of m b c))))).1
    in cc

-- a refusal by the first miss is the newcomer's own at its rank alone
own_rank : (rank at : ℕ) → NewcomerOverload ≡ overload_of rank at → at ≡ rank
own_rank rank at own = by (eqb at rank) refl own
  where
    by : (same : Bool) → eqb at rank ≡ same → NewcomerOverload ≡ (if same then NewcomerOverload else Overload)
        → at ≡ rank
    by true same own = eqb-true at rank same
    by false same own = cc

-- and overload at no other
other_rank : (rank at : ℕ) → Overload ≡ overload_of rank at → at ≢ rank
other_rank rank at other = λ same.
    let own : Overload ≡ NewcomerOverload =
    other ∙ ap (λ one. if one then NewcomerOverload else Overload) (eq-eqb at rank same) in
    cc

-- a place counted on from another is no less
counted_from : (i j : ℕ) (o : Option ℕ) → option_map (λ k. i + k) o ≡ Some j → i ≤ j
counted_from i j (Some k) is = let same : i + k ≡ j = cc in omega (arith, same)
counted_from i j None is = cc

-- a newcomer that enters a sound book at a rank, by a bound that shows the laws
module _ (m : Meaning) (laws : Laws m) (b : Book) (sound : Sound m b) (rank : ℕ) (n : Numbers)
    (entry : Enters b rank n) where
  -- the rows above it, and those that stood from its rank on
  abbrev above : List Row
  above = take (rank - 1) b.rows

  abbrev below : List Row
  below = drop (rank - 1) b.rows

  -- its finding stands at its rank
  own_there : get_or (findings_with m b rank n) (rank - 1) (its_own m b rank n entry) ≡ its_own m b rank n entry
  own_there =
      ap (λ fs. get_or fs (rank - 1) (its_own m b rank n entry)) (parts m b rank n entry)
      ∙ get_or_at (before m b rank n entry) (its_own m b rank n entry) (after m b rank n entry)
      (its_own m b rank n entry) (rank - 1) (place m b rank n entry)

  -- where the first miss with it stands at its rank, it misses
  names_newcomer : (i : ℕ) → position is_miss (findings_with m b rank n) ≡ Some i → i + 1 ≡ rank
      → NamesNewcomer m b rank n (i + 1)
  names_newcomer i first own =
      let f = its_own m b rank n entry in
      let here : i ≡ rank - 1 = omega (arith, own) in
      let miss = ap is_miss (sym (ap (λ k. get_or (findings_with m b rank n) k f) here ∙ own_there))
      ∙ (position-Some is_miss (findings_with m b rank n) i f first).1 in
      let misses = no_rest f.rest f.points miss in
      record {
        own = own;
        row = entry.row;
        made = entry.made;
        misses = misses;
        slow = (brackets laws b.frame entry.row above
            (stands_before b.frame.ticks b.rows above below sound.stand
            (sym (take-append-drop (rank - 1) b.rows)))).misses misses;
      }

  -- where it stands at another, it is of a row that stood, and the newcomer meets
  names_standing : (i : ℕ) → position is_miss (findings_with m b rank n) ≡ Some i → i + 1 ≢ rank
      → NamesStanding m b rank n (i + 1)
  names_standing i first other =
      let f = its_own m b rank n entry in
      let named = names_miss m b.frame laws (with_newcomer rank n b.rows) i (stands_with b rank n sound.stand entry)
      first in
      let least = counted_from (length (before m b rank n entry)) i (position is_miss (f ∷ after m b rank n entry))
      (sym (first_with m b rank n entry (meet_before m b.frame b.rows (rank - 1) sound.meet)) ∙ first) in
      let past : rank < i + 1 = omega (arith, least, other, place m b rank n entry, entry.low) in
      let size = length-take-le (rank - 1) b.rows (omega (arith, entry.high)) in
      let met = (position-Some is_miss (findings_with m b rank n) i f first).2 (rank - 1) (omega (arith, past)) in
      record {
        miss = named;
        below = past;
        stood = ap (at_rank (i + 1 - 1)) (sym (take-append-drop (rank - 1) b.rows))
            ∙ sym (moved_down (i + 1) above below entry.row (omega (arith, past, size, entry.low)))
            ∙ ap (at_rank (i + 1)) (sym (rows_part m b rank n entry))
            ∙ at_there (i + 1) (with_newcomer rank n b.rows) named.above named.below named.row (omega arith)
            (omega (arith, named.rank)) named.table;
        newcomer = entry.row;
        made = entry.made;
        meets = not-false (is_met f) (ap is_miss (sym own_there) ∙ met);
      }

-- an admit to a sound book that is refused with a refusal of no other check is answered by the first miss
refused_so : (m : Meaning) (b : Book) (rank : ℕ) (n : Numbers) → Sound m b → (a : Answer Told) (r : Refusal) (at : ℕ)
    → list_all (is_not_of {A = Told} (refuses r 0)) (entry_checks b rank n) ≡ true
    → a ≡ (step m b (Admit rank n)).1 → a ≡ refuses r at
    → Enters b rank n × (refuses r at ≡ by_first_miss rank (position is_miss (findings_with m b rank n)))
refused_so m b rank n sound a r at others answered is =
    let refused : refuses r at ≡ checked (checks_of m b (Admit rank n)) done =
    sym is ∙ answered ∙ step_answers m b (Admit rank n) in
    let passes = (left_to (entry_checks b rank n) (miss_checks m b rank n) (refuses r at) done others refused).0 in
    (enters b rank n passes, refused ∙ sym (first_miss m b rank n passes sound))

-- on a sound book an answer that refuses a call for a miss is that to an admit, and names its row
pub overload_misses : (m : Meaning) → Laws m → (b : Book) → Sound m b → (c : Call) (a : Answer Told)
    → a ≡ (step m b c).1 → OverloadMisses m b c a
overload_misses m laws b sound (Admit rank n) a answered = (
  (λ at is.
      let so = refused_so m b rank n sound a NewcomerOverload at refl answered is in
      newcomer so.0 at (position is_miss (findings_with m b rank n)) refl so.1),
  (λ at is.
      let so = refused_so m b rank n sound a Overload at refl answered is in
      standing so.0 at (position is_miss (findings_with m b rank n)) refl so.1),
)
  where
    newcomer : Enters b rank n → (at : ℕ) (o : Option ℕ) → position is_miss (findings_with m b rank n) ≡ o
        → refuses NewcomerOverload at ≡ by_first_miss rank o → NamesNewcomer m b rank n at
    newcomer entry at None first refused = cc
    newcomer entry at (Some i) first refused =
        let there : i + 1 ≡ at = cc in
        let own : NewcomerOverload ≡ overload_of rank (i + 1) = cc in
        subst (NamesNewcomer m b rank n) there
        (names_newcomer m laws b sound rank n entry i first (own_rank rank (i + 1) own))

    standing : Enters b rank n → (at : ℕ) (o : Option ℕ) → position is_miss (findings_with m b rank n) ≡ o
        → refuses Overload at ≡ by_first_miss rank o → NamesStanding m b rank n at
    standing entry at None first refused = cc
    standing entry at (Some i) first refused =
        let there : i + 1 ≡ at = cc in
        let other : Overload ≡ overload_of rank (i + 1) = cc in
        subst (NamesStanding m b rank n) there
        (names_standing m laws b sound rank n entry i first (other_rank rank (i + 1) other))
overload_misses m laws b sound (Frame h) a answered =
    (no_refusal m b (Frame h) a NewcomerOverload refl answered, no_refusal m b (Frame h) a Overload refl answered)
overload_misses m laws b sound (Dismiss rank) a answered = (
  no_refusal m b (Dismiss rank) a NewcomerOverload refl answered,
  no_refusal m b (Dismiss rank) a Overload refl answered,
)
overload_misses m laws b sound (Inquire rank) a answered = (
  no_refusal m b (Inquire rank) a NewcomerOverload refl answered,
  no_refusal m b (Inquire rank) a Overload refl answered,
)

-- so does the reply of a call that does what the book says
pub overload_named : {B : Type 0} {m : Meaning} {c : Call} {old new : Held B} {reply : Reply} → Laws m
    → Sound m old.book → Does m c old new reply → OverloadMisses m old.book c (answer_of reply)
overload_named {B} {m} {c} {old} {new} {reply} laws sound does =
    overload_misses m laws old.book sound c (answer_of reply) does.replies

-- the answer to a call stands at its place among the answers
pub answer_at : (m : Meaning) (before after : List Call) (c : Call)
    → at_rank (length before + 1) (answers_to m (before ++ c ∷ after)) ≡ Some (step m (book_after m before) c).1
answer_at m before after c =
    let more = answers_from m (book_after m before) (c ∷ after) in
    let next : length before + 1 ≡ suc (length before) = omega arith in
    ap (λ rank. at_rank rank (answers_to m (before ++ c ∷ after))) next
    ∙ ap (λ all. first_of (drop (length before) all)) (answers_from_append m first_book before (c ∷ after))
    ∙ ap first_of (drop_at (answers_to m before) more (length before) (length_answers_to m before))

-- so does every answer to a call of a list
pub overloads_miss : (m : Meaning) → Laws m → OverloadsMiss m
overloads_miss m laws before after c a there =
    let same = sym there ∙ answer_at m before after c in
    let answered : a ≡ (step m (book_after m before) c).1 = cc in
    overload_misses m laws (book_after m before) (runs_sound m before) c a answered

-- on a sound book the first miss with a newcomer decides
pub first_miss_decides : (m : Meaning) (b : Book) → Sound m b → FirstMissDecidesOn m b
first_miss_decides m b sound rank n passes =
    let entry = enters b rank n passes in
    let first = before m b rank n entry in
    let others = its_own m b rank n entry ∷ after m b rank n entry in
    let front : take (rank - 1) (findings_with m b rank n) ≡ first =
    ap (take (rank - 1)) (parts m b rank n entry) ∙ take_at first others (rank - 1) (place m b rank n entry) in
    record {
      above = subst (AllPass is_met) (sym front) (meet_before m b.frame b.rows (rank - 1) sound.meet);
      answer = step_answers m b (Admit rank n) ∙ sym (first_miss m b rank n passes sound);
    }

-- so it does after every list of calls
pub first_misses_decide : (m : Meaning) → FirstMissesDecide m
first_misses_decide m calls = first_miss_decides m (book_after m calls) (runs_sound m calls)
