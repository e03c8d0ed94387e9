-- Rows and findings filed in turn: where the writer is after them.
use Rattle.std.proofs.Common.{◌≡◌, ℕ, ◌+◌, ◌*◌, ◌<◌, ◌≤◌, List, [], ◌∷◌, map, length, get_or, take, sym, refl, ap, ◌∙◌}
use Rattle.std.proofs.Common.{subst, arith}
use Rattle.std.proofs.lemmas.List.{length-take-le, map_push, take_more}
use Rattle.rows.specs.declared.tasks.Row.{Row}
use Rattle.rows.specs.declared.verdicts.Finding.{Finding}
use Rattle.leaves.specs.declared.entries.Entry.{Entry}
use Rattle.leaves.specs.declared.entries.Entry.TheVariants.{Row as row, Finding as finding}
use Rattle.leaves.specs.Entries.{row_size, finding_size}
use Rattle.reading.specs.declared.phases.Phase.{Phase}
use Rattle.reading.specs.Grammar.{after_rows, after_findings, Step, stands, finds}
use Rattle.reading.specs.Phases.{place_of, rows_in, findings_in, frame_in}
use Rattle.writing.specs.Filing.{Files, FilesAll, none, files}
use Rattle.writing.proofs.Turns.{filed_length, file_push}

-- after so many rows and findings more the writer is in the same leaf
pub record After (p : Phase) (old : List ℕ) (n m : ℕ) (q : Phase) (new : List ℕ) : Type 0 where
  pub frame : frame_in q ≡ frame_in p
  pub rows : rows_in q ≡ rows_in p + n
  pub findings : findings_in q ≡ findings_in p + m
  pub place : place_of q ≡ place_of p + (1 + row_size) * n + (1 + finding_size) * m
  pub size : length new ≡ length old

-- a row more, and a finding more
one_row : {p q : Phase} {old new : List ℕ} {r : Row} → Files p old (row r) q new → After p old 1 0 q new
one_row {old = old} {new = new} filed = by filed.step (filed_length filed)
  where
    by : {p q : Phase} {r : Row} → Step p (row r) q → length new ≡ length old → After p old 1 0 q new
    by (stands room on) size = record { frame = refl; rows = refl; findings = refl; place = omega arith; size = size }

one_finding : {p q : Phase} {old new : List ℕ} {f : Finding} → Files p old (finding f) q new → After p old 0 1 q new
one_finding {old = old} {new = new} filed = by filed.step (filed_length filed)
  where
    by : {p q : Phase} {f : Finding} → Step p (finding f) q → length new ≡ length old → After p old 0 1 q new
    by (finds after_rows missing good) size =
        record { frame = refl; rows = omega arith; findings = refl; place = omega arith; size = size }
    by (finds after_findings missing good) size =
        record { frame = refl; rows = omega arith; findings = refl; place = omega arith; size = size }

-- rows filed one after the other leave as many rows more
pub rows_filed : {p q : Phase} {old new : List ℕ} (rs : List Row) → FilesAll p old (map row rs) q new
    → After p old (length rs) 0 q new
rows_filed [] none =
    record { frame = refl; rows = omega arith; findings = omega arith; place = omega arith; size = refl }
rows_filed (r ∷ rs) (files first all) =
    let one = one_row first in
    let others = rows_filed rs all in
    record {
      frame = others.frame ∙ one.frame;
      rows = omega (arith, others.rows, one.rows);
      findings = omega (arith, others.findings, one.findings);
      place = omega (arith, others.place, one.place);
      size = others.size ∙ one.size;
    }

pub findings_filed : {p q : Phase} {old new : List ℕ} (fs : List Finding) → FilesAll p old (map finding fs) q new
    → After p old 0 (length fs) q new
findings_filed [] none =
    record { frame = refl; rows = omega arith; findings = omega arith; place = omega arith; size = refl }
findings_filed (f ∷ fs) (files first all) =
    let one = one_finding first in
    let others = findings_filed fs all in
    record {
      frame = others.frame ∙ one.frame;
      rows = omega (arith, others.rows, one.rows);
      findings = omega (arith, others.findings, one.findings);
      place = omega (arith, others.place, one.place);
      size = others.size ∙ one.size;
    }

-- one element more of a list is filed
pub one_more_filed : {X : Type 0} (entry : X → Entry) (xs : List X) (i : ℕ)
    (d : X) {p q s : Phase} {old between new : List ℕ} → i < length xs
    → FilesAll p old (map entry (take i xs)) q between → Files q between (entry (get_or xs i d)) s new
    → FilesAll p old (map entry (take (i + 1) xs)) s new
one_more_filed entry xs i d {p = p} {s = s} {old = old} {new = new} within all one =
    subst (λ es. FilesAll p old es s new)
    (sym (ap (map entry) (take_more xs i d within) ∙ map_push entry (take i xs) (get_or xs i d)))
    (file_push all one)

-- before an element of a list is filed, as many are filed as stand before it
module _ (i : ℕ) {p q : Phase} {old new : List ℕ} where
  pub rows_before : (rs : List Row) → i ≤ length rs → FilesAll p old (map row (take i rs)) q new → After p old i 0 q new
  rows_before rs within all =
      subst (λ n. After p old n 0 q new) (length-take-le i rs within) (rows_filed (take i rs) all)

  pub findings_before : (fs : List Finding) → i ≤ length fs → FilesAll p old (map finding (take i fs)) q new
      → After p old 0 i q new
  findings_before fs within all =
      subst (λ m. After p old 0 m q new) (length-take-le i fs within) (findings_filed (take i fs) all)
