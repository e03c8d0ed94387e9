-- A whole leaf: what its checks let through, and what filing it comes to.
use Rattle.std.proofs.Common.{◌≡◌, ℕ, ◌+◌, ◌≤◌, false, not, eqb, ltb, List, [], ◌∷◌, ◌++◌, map, length, get_or, min}
use Rattle.std.proofs.Common.{take, sym, refl, ap, ◌∙◌, ap₂, subst, arith}
use Rattle.std.specs.List.{All, AllPass}
use Rattle.std.proofs.lemmas.Bool.{eq-eqb, eqb-true, le-ltb, ltb-false, not-false, not_from_true}
use Rattle.rows.specs.declared.refusals.Refusal.{Refusal}
use Rattle.rows.specs.declared.refusals.Refusal.TheVariants.{OffFrame, FullTable, Miscount, BadFinding, ShortBuffer}
use Rattle.rows.specs.declared.tasks.Row.{Row}
use Rattle.rows.specs.Answers.{gives, refuses, Check, check, checked, Passes}
use Rattle.rows.specs.declared.frames.FrameNumbers.{FrameNumbers}
use Rattle.rows.specs.Books.{is_off}
use Rattle.rows.specs.Counting.{is_on_frame}
use Rattle.rows.specs.Lists.{written}
use Rattle.rows.specs.Times.{most_rows}
use Rattle.rows.proofs.Checks.{first_passes, gives_any, passes_on, places_pass, places_pass_on}
use Rattle.rows.specs.declared.verdicts.Finding.{Finding}
use Rattle.leaves.specs.declared.entries.Heading.{Heading}
use Rattle.leaves.specs.declared.entries.HeadingNumbers.{HeadingNumbers}
use Rattle.leaves.specs.declared.entries.Entry.TheVariants.{Heading as heading, Row as row, Finding as finding}
use Rattle.leaves.specs.declared.entries.Entry.TheVariants.{End as end}
use Rattle.leaves.specs.Contents.{Contents, contents, entries, bytes_of, encoding, IsLawful}
use Rattle.leaves.specs.Entries.{row_place, finding_place, leaf_length}
use Rattle.leaves.specs.Headings.{heading_plain}
use Rattle.leaves.specs.Judging.{is_bad_finding}
use Rattle.leaves.proofs.SameHeading.{same_heading}
use Rattle.reading.specs.declared.phases.Phase.{Phase}
use Rattle.reading.specs.declared.phases.Phase.TheVariants.{Opening, Rows, Closed}
use Rattle.reading.specs.Grammar.{Step, opens, closes}
use Rattle.reading.specs.Phases.{place_of, rows_in, findings_in}
use Rattle.reading.proofs.Contents.{lawful_run, same_contents}
use Rattle.reading.proofs.Runs.{run_place}
use Rattle.writing.specs.Filing.{Files, FilesAll, none, files}
use Rattle.writing.specs.Whole.{AreOf, IsFiled, file_checks}
use Rattle.writing.proofs.Filed.{rows_filed, findings_filed}
use Rattle.writing.proofs.Turns.{turned, whole_in_turn, file_join}
use Rattle.writing.proofs.Written.{take_written}

-- the bytes of a leaf are as long as its number of rows says
pub encoding_length : (c : Contents) → IsLawful c → length (encoding c) ≡ leaf_length (length c.rows)
encoding_length c lawful = omega (arith, run_place (lawful_run c lawful))

module _ (h : FrameNumbers) (rs : List Row) (fs : List Finding) (size : ℕ) where
  -- what is known once the checks let a leaf through
  pub record Passed : Type 0 where
    pub few : length rs ≤ most_rows
    pub on : AllPass (is_on_frame h.ticks) rs
    pub even : length fs ≡ length rs
    pub good : All (λ f. is_bad_finding f ≡ false) fs
    pub room : leaf_length (length rs) ≤ size

  pub passed : Passes (file_checks h rs fs size) → Passed
  passed given =
      let few = first_passes (ltb most_rows (length rs)) FullTable (row_place most_rows) tt _ given in
      let on = places_pass (is_off h) row_place rs OffFrame tt _ few.1 in
      let even = first_passes (not (eqb (length fs) (length rs))) Miscount
      (finding_place (length rs) (min (length rs) (length fs))) tt _ on.1 in
      let good = places_pass is_bad_finding (finding_place (length rs)) fs BadFinding tt _ even.1 in
      let room = first_passes (ltb size (leaf_length (length rs))) ShortBuffer 0 tt _ good.1 in
      record {
        few = ltb-false most_rows (length rs) few.0;
        on = λ k d within. not-false (is_on_frame h.ticks (get_or rs k d)) (on.0 k d within);
        even = eqb-true (length fs) (length rs) (not-false _ even.0);
        good = good.0;
        room = ltb-false size (leaf_length (length rs)) room.0;
      }

  -- the length of the leaf is then the answer
  pub gives_length : (place : ℕ) → Passes (file_checks h rs fs size) → place ≡ leaf_length (length rs)
      → gives place ≡ checked (file_checks h rs fs size) (leaf_length (length rs))
  gives_length place given is = ap gives is ∙ gives_any (file_checks h rs fs size) tt tt given (leaf_length (length rs))

-- the checks of filing contents in a buffer of so many bytes
abbrev checks_of : Contents → ℕ → List Check
checks_of c size = file_checks c.heading.frame c.rows c.findings size

module _ (c : Contents) (size : ℕ) {A : Type 0} (x : A) (lawful : IsLawful c) where
  -- of lawful contents nothing is left to be checked but the room
  pub room_is_left : checked (checks_of c size) x
      ≡ checked (check (ltb size (leaf_length (length c.rows))) ShortBuffer 0 ∷ []) x
  room_is_left =
      passes_on (ltb most_rows (length c.rows)) FullTable (row_place most_rows) _
      (le-ltb most_rows (length c.rows) lawful.few)
      ∙ places_pass_on (is_off c.heading.frame) row_place c.rows OffFrame _
      (λ k d within. not_from_true (is_on_frame c.heading.frame.ticks (get_or c.rows k d)) (lawful.on k d within))
      ∙ passes_on (not (eqb (length c.findings) (length c.rows))) Miscount _ _
      (not_from_true _ (eq-eqb (length c.findings) (length c.rows) lawful.even))
      ∙ places_pass_on is_bad_finding (finding_place (length c.rows)) c.findings BadFinding _
      (λ k d within. (lawful.good k d within).good)

  module _ (room : length (encoding c) ≤ size) where
    -- lawful contents for which there is room come through
    pub passes : checked (checks_of c size) x ≡ gives x
    passes =
        room_is_left ∙ passes_on (ltb size (leaf_length (length c.rows))) ShortBuffer 0 (gives x)
        (le-ltb size (leaf_length (length c.rows)) (omega (arith, room, encoding_length c lawful)))

    -- lawful contents for which there is room are never refused
    pub never_refused : (number : Refusal) (at : ℕ) → refuses number at ≡ checked (checks_of c size) x → ⊥
    never_refused number at refused = let given = passes in cc

-- contents are known by the numbers of their heading, their rows and their findings
pub contents_are : (h : Heading) (n : HeadingNumbers) (rs : List Row) (fs : List Finding) (c : Contents)
    → heading_plain h ≡ n → AreOf n rs fs c → contents h rs fs ≡ c
contents_are h n rs fs c plain are =
    let head = same_heading h c.heading (plain ∙ sym are.heading) in
    λ i. record { heading = head i; rows = sym are.rows i; findings = sym are.findings i }

-- a heading opens the rows
pub opens_rows : {h : Heading} {q : Phase} → Step Opening (heading h) q → q ≡ Rows h 0
opens_rows opens = refl

-- an end closes the leaf
closed_by : {p q : Phase} {k : ℕ} → Step p (end k) q → (h : Heading) × (t : ℕ) × (q ≡ Closed h t)
closed_by (closes {h = h} {n = t} takes even number) = (h, t, refl)

-- a heading, rows, findings and the end filed in turn are a whole leaf
pub record Finished (old : List ℕ) (c : Contents) (end_at : ℕ) (new : List ℕ) : Type 0 where
  pub filed : IsFiled c old new end_at
  pub place : end_at ≡ leaf_length (length c.rows)

module _ {h : Heading} {p q : Phase} (rs : List Row) (fs : List Finding) {first second : List ℕ}
    (opening : p ≡ Rows h 0) (rows : FilesAll p first (map row rs) q second) where
  module _ {r : Phase} {third : List ℕ} (findings : FilesAll q second (map finding fs) r third) where
    -- what is counted before the end
    pub counted_rows : rows_in r ≡ length rs
    counted_rows = omega (arith, (rows_filed rs rows).rows, (findings_filed fs findings).rows, ap rows_in opening)

    pub counted_findings : findings_in r ≡ length fs
    counted_findings =
        omega (arith, (rows_filed rs rows).findings, (findings_filed fs findings).findings, ap findings_in opening)

    pub finished : {s : Phase} {old new : List ℕ} → Files Opening old (heading h) p first
        → Files r third (end (1 + rows_in r + findings_in r)) s new → Finished old (contents h rs fs) (place_of s) new
    finished {s = s} {old = old} {new = new} begun last =
        let c = contents h rs fs in
        let number : 1 + rows_in r + findings_in r ≡ 1 + length rs + length fs =
        omega (arith, counted_rows, counted_findings) in
        let es = heading h ∷ (map row rs ++ (map finding fs ++ end (1 + rows_in r + findings_in r) ∷ [])) in
        let same : es ≡ entries c = ap (λ k. heading h ∷ (map row rs ++ (map finding fs ++ end k ∷ []))) number in
        let all : FilesAll Opening old es s new = files begun (file_join rows (file_join findings (files last none))) in
        let closed = closed_by last.step in
        let leaf = whole_in_turn.whole old new es closed.0 closed.1
        (subst (λ z. FilesAll Opening old es z new) closed.2 all) in
        let is : leaf.contents ≡ c = same_contents leaf.contents c (sym leaf.same ∙ same) in
        let lawful : IsLawful c = subst IsLawful is leaf.lawful in
        let bytes : new ≡ written old 0 (encoding c) = leaf.bytes ∙ ap (λ d. written old 0 (encoding d)) is in
        let turn = turned all (omega arith) in
        let place : place_of s ≡ length (encoding c) =
        omega (arith, run_place turn.run, ap (λ fs. length (bytes_of fs)) same) in
        let upto : place_of s ≡ 0 + length (encoding c) = omega (arith, place) in
        record {
          filed = record {
            lawful = lawful;
            bytes = bytes;
            fits =
                (lawful, ap₂ take upto bytes ∙ take_written old 0 (omega arith) (encoding c));
          };
          place = place ∙ encoding_length c lawful;
        }
