-- What a call of the code does, by what it found on its way.
use Rattle.std.proofs.Common.{◌≡◌, ◌≢◌, ℕ, suc, ◌+◌, ◌-◌, ◌≤◌, true, false, not, leb, List, [], ◌∷◌}
use Rattle.std.proofs.Common.{◌++◌, length, get_or, take, drop, Some, None, refl, sym, ap, ap₂, ◌∙◌, subst, arith}
use Rattle.std.proofs.Common.{position}
use Rattle.std.specs.Prelude.{nat_lt}
use Rattle.std.specs.List.{AllPass, insert, remove}
use Rattle.std.specs.Option.{option_map, unwrap_or}
use Rattle.std.proofs.lemmas.Bool.{and_from, le-leb, lt-leb, not-false}
use Rattle.std.proofs.lemmas.List.{get_or-map, length-map, nil_from_length}
use Rattle.std.proofs.lemmas.List.Elements.{All-weaker}
use Rattle.rows.specs.declared.frames.FrameNumbers.{FrameNumbers}
use Rattle.rows.specs.declared.refusals.Fault.{Fault}
use Rattle.rows.specs.declared.refusals.Refusal.TheVariants.{StandingRows, FullTable, NoRank}
use Rattle.rows.specs.declared.tasks.Numbers.{Numbers}
use Rattle.rows.specs.declared.tasks.Row.{Row}
use Rattle.rows.specs.Answers.{check, checked, first_refusal, gives, refuses, Passes}
use Rattle.rows.specs.Frames.{frame_checks}
use Rattle.rows.specs.Judging.{plain, rows_of, frame_flaws, flaw_checks}
use Rattle.rows.specs.Lists.{at_rank}
use Rattle.rows.specs.Times.{most_rows}
use Rattle.rows.proofs.Checks.{given_is, gives_any, passed_first, passes_on}
use Rattle.rows.proofs.SameRow.{rows_of_plain}
use Rattle.bounds.specs.Meaning.{Meaning}
use Rattle.rows.specs.declared.verdicts.Finding.{Finding}
use Rattle.rows.specs.Found.{Found, tells, is_met, is_miss}
use Rattle.findings.specs.Findings.{row_finding}
use Rattle.findings.proofs.Tables.{finding_below_at, length_findings_below}
use Rattle.findings.specs.Tables.{findings_of}
use Rattle.admission.specs.declared.calls.Call.{Call}
use Rattle.admission.specs.declared.calls.Call.TheVariants.{Frame, Admit, Dismiss, Inquire}
use Rattle.admission.specs.declared.calls.Reply.{Reply}
use Rattle.admission.specs.declared.calls.Reply.TheVariants.{Done, Refused}
use Rattle.rows.specs.Books.{Book, IsJudged, book, place_checks}
use Rattle.rows.specs.Ranks.{is_rank, rank_checks}
use Rattle.rows.proofs.Ranked.{ranked}
use Rattle.findings.proofs.OnFrame.{judged_stand}
use Rattle.admission.specs.declared.keeping.Kept.{Kept}
use Rattle.admission.specs.Benches.{Held, bench, Does, IsCounted, Keeps, kept_findings}
use Rattle.admission.specs.Books.{checks_of, entry_checks, once_done, told, with_newcomer, without}
use Rattle.admission.specs.Promises.{by_first_miss, overload_of}
use Rattle.admission.specs.Replies.{Told, answer_of, done, row_found}
use Rattle.admission.proofs.Places.{nowhere, rank_place}
use Rattle.admission.proofs.Steps.{Sound, first_miss, step_given, step_refused}

-- what is seen of a bench by a bound, with what it keeps
abbrev pub seen : {B : Type 0} → B → Kept → Held B
seen bound k = record { bound = bound; book = k.table; findings = kept_findings k }

-- a bench that keeps what every bench keeps is that of its bound and book
pub kept_is : {B : Type 0} (m : Meaning) (bound : B) (k : Kept) → Keeps m k → seen bound k ≡ bench m bound k.table
kept_is m bound k keeps = ap (λ fs. record { bound = bound; book = k.table; findings = fs }) keeps.counted

-- and its book is sound, where its table is judged
pub kept_sound : (m : Meaning) (k : Kept) → IsJudged k.table → Keeps m k → Sound m k.table
kept_sound m k judged keeps = record {
  stand = judged_stand k.table judged;
  few = judged.few;
  meet = subst (AllPass is_met) keeps.counted keeps.meet;
}

-- so is the book that is seen of a bench, by a bound of any meaning
pub seen_sound : {B : Type 0} (meaning : B → Meaning) (bound : B) (k : Kept) (now : Held B) → seen bound k ≡ now
    → IsJudged k.table → Keeps (meaning bound) k → Sound (meaning now.bound) now.book
seen_sound meaning bound k now is judged keeps =
    subst (λ b. Sound (meaning b.bound) b.book) is (kept_sound (meaning bound) k judged keeps)

-- a call that refuses as its checks do leaves the bench, and does what the book says
pub refuses_so : {B : Type 0} (m : Meaning) (c : Call) (now : Held B) (x : Fault) → now ≡ bench m now.bound now.book
    → refuses x.refusal x.at ≡ checked (checks_of m now.book c) (told m now.book c) → Does m c now now (Refused x)
refuses_so m c now x kept refused =
    let s = step_refused m now.book c x.refusal x.at refused in
    record { becomes = kept ∙ ap (λ p. bench m now.bound p.0) (sym s); replies = ap (λ p. p.1) (sym s) }

-- a call that passes its checks does what the book says where it comes to the book once it is done
pub does_so : {B : Type 0} (m : Meaning) (c : Call) (old new : Held B) (reply : Reply) (x : Told)
    → gives x ≡ checked (checks_of m old.book c) (told m old.book c)
    → answer_of reply ≡ gives x → new ≡ bench m old.bound (once_done old.book c) → Does m c old new reply
does_so m c old new reply x given replied becomes =
    let s = step_given m old.book c x given in
    record { becomes = becomes ∙ ap (λ p. bench m old.bound p.0) (sym s); replies = replied ∙ ap (λ p. p.1) (sym s) }

-- a rank from 1 to the last is one
is_within : (last rank : ℕ) → 1 ≤ rank → rank ≤ last → not (is_rank last rank) ≡ false
is_within last rank low high =
    ap not (and_from (leb 1 rank) (leb rank last) (le-leb 1 rank low) (le-leb rank last high))

-- findings none of which is a miss are all met
pub all_meet : (fs : List Found) → position is_miss fs ≡ None → AllPass is_met fs
all_meet fs none =
    All-weaker (λ f. is_miss f ≡ false) (λ f. is_met f ≡ true) (λ f. not-false (is_met f)) fs (nowhere is_miss fs none)

-- a row of four numbers that is to be put in at a rank
module _ (b : Book) (rank : ℕ) (n : Numbers) (r : Row)
    (judged : gives (plain r) ≡ checked (flaw_checks (frame_flaws b.frame) n 0) n) where
  -- the rows with the newcomer are those with it put in
  pub newcomer_is : with_newcomer rank n b.rows ≡ insert b.rows (rank - 1) r
  newcomer_is =
      let same : n ≡ plain r = sym (given_is (flaw_checks (frame_flaws b.frame) n 0) (plain r) n judged) in
      ap (λ rs. take (rank - 1) b.rows ++ (rs ++ drop (rank - 1) b.rows))
      (ap (λ x. rows_of (x ∷ [])) same ∙ rows_of_plain (r ∷ []))

  -- where there is a place for it, it comes through the checks before those of misses
  pub comes_through : length b.rows + 1 ≤ most_rows → 1 ≤ rank → rank ≤ length b.rows + 1
      → Passes (entry_checks b rank n)
  comes_through room low high =
      let last = length b.rows + 1 in
      sym (passes_on (leb most_rows (length b.rows)) FullTable 0 (first_refusal (rank_checks last rank))
      (lt-leb most_rows (length b.rows) (omega (arith, room)))
      ∙ passes_on (not (is_rank last rank)) NoRank 0 (gives tt) (is_within last rank low high))
      ∙ passed_first (flaw_checks (frame_flaws b.frame) n 0) (place_checks (length b.rows) rank) (plain r) n judged tt

-- a row taken out at a rank
pub without_is : (rank : ℕ) (rows : List Row) → 1 ≤ rank → remove rows (rank - 1) ≡ without rank rows
without_is rank rows low = let up : suc (rank - 1) ≡ rank = omega arith in
    ap (λ k. take (rank - 1) rows ++ drop k rows) up

-- what the code has found where it sets the frame and where it dismisses a row
module _ {B : Type 0} (m : Meaning) (bound : B) (k new : Kept) where
  -- where a frame is judged and no row stands, an empty bench with it is what setting it comes to
  pub sets_frame : (h frame : FrameNumbers) → gives frame ≡ checked (frame_checks h) h → length k.table.rows ≡ 0
      → new.table ≡ book frame [] → kept_findings new ≡ []
      → Does m (Frame h) (seen bound k) (seen bound new) Done
  sets_frame h frame judged none table findings =
      let standing = check (nat_lt 0 (length k.table.rows)) StandingRows 0 in
      let empty : k.table.rows ≡ [] = nil_from_length k.table.rows none in
      let given : gives done ≡ checked (checks_of m k.table (Frame h)) done =
      sym (passes_on (nat_lt 0 (length k.table.rows)) StandingRows 0 (gives done) (ap (λ n. nat_lt 0 n) none))
      ∙ passed_first (frame_checks h) (standing ∷ []) frame h judged done in
      let becomes : seen bound new ≡ bench m bound (book h k.table.rows) =
      ap₂ (λ b fs. record { bound = bound; book = b; findings = fs })
      (table ∙ ap (λ f. book f []) (given_is (frame_checks h) frame h judged)) findings
      ∙ ap (λ rows. bench m bound (book h rows)) (sym empty) in
      does_so m (Frame h) (seen bound k) (seen bound new) Done done given refl becomes

  -- where a row stands at a rank, a bench without it is what dismissing it comes to
  pub dismisses : (rank : ℕ) → Passes (rank_checks (length k.table.rows) rank) → 1 ≤ rank → Keeps m new
      → new.table ≡ book k.table.frame (remove k.table.rows (rank - 1))
      → Does m (Dismiss rank) (seen bound k) (seen bound new) Done
  dismisses rank passes low keeps table =
      does_so m (Dismiss rank) (seen bound k) (seen bound new) Done done
      (gives_any (rank_checks (length k.table.rows) rank) tt tt passes done) refl
      (kept_is m bound new keeps
      ∙ ap (bench m bound) (table ∙ ap (book k.table.frame) (without_is rank k.table.rows low)))

-- what is kept at a place is what inquiring at its rank tells
module _ (m : Meaning) (k : Kept) (keeps : Keeps m k) (rank : ℕ) (low : 1 ≤ rank) (high : rank ≤ length k.table.rows)
    (d : Row) (e : Finding) where
  finding_is : tells (get_or k.findings.items (rank - 1) e)
      ≡ row_finding m k.table.frame (get_or k.table.rows (rank - 1) d) (take (rank - 1) k.table.rows)
  finding_is =
      let place = rank - 1 in
      let many : length k.findings.items ≡ length k.table.rows =
      sym (length-map k.findings.items tells) ∙ ap length keeps.counted
      ∙ length_findings_below m k.table.frame [] k.table.rows in
      sym (get_or-map tells k.findings.items place e (tells e) (omega arith))
      ∙ ap (λ fs. get_or fs place (tells e)) keeps.counted
      ∙ finding_below_at m k.table.frame [] k.table.rows place (tells e) d (omega arith)

  pub inquired : gives
      (row_found (plain (get_or k.table.rows (rank - 1) d)) (tells (get_or k.findings.items (rank - 1) e)))
      ≡ checked (checks_of m k.table (Inquire rank)) (told m k.table (Inquire rank))
  inquired =
      let rows = k.table.rows in
      let r = get_or rows (rank - 1) d in
      let there : at_rank rank rows ≡ Some r = rank_place rows rank d low high in
      let tells_so : told m k.table (Inquire rank)
      ≡ row_found (plain r) (row_finding m k.table.frame r (take (rank - 1) rows)) =
      ap (λ o. unwrap_or
      (option_map (λ r. row_found (plain r) (row_finding m k.table.frame r (take (rank - 1) rows))) o) done) there
      in
      sym (passes_on (not (is_rank (length rows) rank)) NoRank 0 (gives (told m k.table (Inquire rank)))
      (is_within (length rows) rank low high)
      ∙ ap gives (tells_so ∙ ap (row_found (plain r)) (sym finding_is)))

-- what an admit knows when it comes to count: the newcomer is a row that comes through the checks before those of
-- misses, and the table is judged
pub record Enters (k : Kept) (rank : ℕ) (n : Numbers) (r : Row) : Type 0 where
  pub judged : gives (plain r) ≡ checked (flaw_checks (frame_flaws k.table.frame) n 0) n
  pub passes : Passes (entry_checks k.table rank n)
  pub table : IsJudged k.table

-- it comes from the checks made
pub entering : (k : Kept) (rank : ℕ) (n : Numbers) (r : Row) (h : FrameNumbers) (count : ℕ) → h ≡ k.table.frame
    → gives (plain r) ≡ checked (flaw_checks (frame_flaws h) n 0) n
    → count ≡ length k.table.rows → IsJudged k.table → count ≢ most_rows → Passes (rank_checks (count + 1) rank)
    → Enters k rank n r
entering k rank n r h count frame judged many table apart passes =
    let its = subst (λ h. gives (plain r) ≡ checked (flaw_checks (frame_flaws h) n 0) n) frame judged in
    let within = ranked (count + 1) rank passes in
    record {
      judged = its;
      passes = comes_through k.table rank n r its (omega (arith, many, table.few, apart)) within.0
          (omega (arith, within.1, many));
      table = table;
    }

-- a table with a row of four numbers put in at a rank
module _ {B : Type 0} (m : Meaning) (bound : B) (k : Kept) (keeps : Keeps m k) (rank : ℕ) (n : Numbers) (r : Row)
    (enters : Enters k rank n r)
    (new : Kept) (counted : IsCounted m new)
    (with : new.table ≡ book k.table.frame (insert k.table.rows (rank - 1) r)) where
  -- is kept where no row misses
  pub kept_with : position is_miss (kept_findings new) ≡ None → Keeps m new
  kept_with none = record { counted = counted; meet = all_meet (kept_findings new) none }

  -- its book is the one with the newcomer
  its_book : new.table ≡ book k.table.frame (with_newcomer rank n k.table.rows)
  its_book = with ∙ ap (book k.table.frame) (sym (newcomer_is k.table rank n r enters.judged))

  -- so the answer is decided by the first miss that it keeps
  decided_so : by_first_miss rank (position is_miss (kept_findings new))
      ≡ checked (checks_of m k.table (Admit rank n)) done
  decided_so =
      ap (λ fs. by_first_miss rank (position is_miss fs))
      (counted ∙ ap (λ b. findings_of m b.frame b.rows) its_book)
      ∙ first_miss m k.table rank n enters.passes (kept_sound m k enters.table keeps)

  -- where with the newcomer no row misses, the bench with it is that of an admission
  pub admits_so : position is_miss (kept_findings new) ≡ None
      → Does m (Admit rank n) (seen bound k) (seen bound new) Done
  admits_so none =
      does_so m (Admit rank n) (seen bound k) (seen bound new) Done done
      (ap (by_first_miss rank) (sym none) ∙ decided_so) refl
      (kept_is m bound new (kept_with none) ∙ ap (bench m bound) its_book)

  -- where with the newcomer a row misses, it is refused for the first that does
  pub overloads_so : (i : ℕ) → position is_miss (kept_findings new) ≡ Some i → Does m (Admit rank n) (seen bound k)
      (seen bound k) (Refused (record { refusal = overload_of rank (i + 1); at = i + 1 }))
  overloads_so i some =
      refuses_so m (Admit rank n) (seen bound k) (record { refusal = overload_of rank (i + 1); at = i + 1 })
      (kept_is m bound k keeps) (ap (by_first_miss rank) (sym some) ∙ decided_so)
