-- Whole leaves: contents, and the runs that close one.
use Rattle.std.proofs.Common.{◌≡◌, ℕ, ◌+◌, ◌≤◌, true, List, [], ◌∷◌, ◌++◌, map, length, sym, refl, ap, ◌∙◌, subst, ap₂}
use Rattle.std.proofs.Common.{arith}
use Rattle.std.specs.List.{All, AllPass}
use Rattle.std.proofs.lemmas.List.Elements.{All-cons, All-head, All-nil, All-tail}
use Rattle.rows.specs.declared.tasks.Row.{Row}
use Rattle.rows.specs.Counting.{is_on_frame}
use Rattle.rows.specs.Times.{most_rows}
use Rattle.rows.specs.declared.verdicts.Finding.{Finding}
use Rattle.leaves.specs.declared.entries.Heading.{Heading}
use Rattle.leaves.specs.declared.entries.Entry.{Entry}
use Rattle.leaves.specs.declared.entries.Entry.TheVariants.{Heading as heading, Row as row, Finding as finding}
use Rattle.leaves.specs.declared.entries.Entry.TheVariants.{End as end}
use Rattle.leaves.specs.Contents.{Contents, entries, IsLawful}
use Rattle.leaves.specs.Judging.{IsFilable}
use Rattle.reading.specs.declared.phases.Phase.{Phase}
use Rattle.reading.specs.declared.phases.Phase.TheVariants.{Opening, Rows, Findings, Closed}
use Rattle.reading.specs.Grammar.{TakesFindings, after_rows, after_findings, opens, stands, finds, closes, Run, stays}
use Rattle.reading.specs.Grammar.{goes}
use Rattle.reading.proofs.Steps.{closed_stuck}
use Rattle.reading.proofs.Runs.{run_sound}

-- findings and the end close a leaf, from any phase that takes findings
findings_run : (fs : List Finding) {p : Phase} {h : Heading} {n m : ℕ} → TakesFindings p h n m → All IsFilable fs
    → m + length fs ≡ n → Run p (map finding fs ++ end (1 + n + n) ∷ []) (Closed h n)
findings_run [] takes good count = goes (closes takes (omega arith) (omega arith)) stays
findings_run (f ∷ fs) takes good count =
    goes (finds takes (omega arith) (All-head IsFilable f fs good))
    (findings_run fs after_findings (All-tail IsFilable f fs good) (omega arith))

-- rows, and then findings and the end, close a leaf
rows_run : (h : Heading) (n t : ℕ) (rs : List Row) (fs : List Finding) → n + length rs ≡ t → length fs ≡ t
    → t ≤ most_rows → AllPass (is_on_frame h.frame.ticks) rs → All IsFilable fs
    → Run (Rows h n) (map row rs ++ (map finding fs ++ end (1 + t + t) ∷ [])) (Closed h t)
rows_run h n t [] fs total count few on good =
    let all : n ≡ t = omega arith in
    subst (λ m. Run (Rows h m) (map finding fs ++ end (1 + t + t) ∷ []) (Closed h t)) (sym all)
    (findings_run fs after_rows good (omega arith))
rows_run h n t (r ∷ rs) fs total count few on good =
    goes (stands (omega arith) (All-head (λ s. is_on_frame h.frame.ticks s ≡ true) r rs on))
    (rows_run h (n + 1) t rs fs (omega arith) count few
    (All-tail (λ s. is_on_frame h.frame.ticks s ≡ true) r rs on) good)

-- the entries of lawful contents close a leaf
pub lawful_run : (c : Contents) → IsLawful c → Run Opening (entries c) (Closed c.heading (length c.rows))
lawful_run c lawful =
    goes opens
    (subst (λ m. Run (Rows c.heading 0) (map row c.rows ++ (map finding c.findings ++ end (1 + length c.rows + m) ∷ []))
    (Closed c.heading (length c.rows))) (sym lawful.even)
    (rows_run c.heading 0 (length c.rows) c.rows c.findings (omega arith) lawful.even lawful.few lawful.on lawful.good))

-- in a leaf with a heading, after n rows and m findings, what closes it is more rows, more findings and the end
record ClosesBy (h : Heading) (n m : ℕ) (kept : List Row) (filed : List Finding) (es : List Entry) (g : Heading)
    (t : ℕ) : Type 0 where
  same : es ≡ map row kept ++ (map finding filed ++ end (1 + t + t) ∷ [])
  on : AllPass (is_on_frame h.frame.ticks) kept
  good : All IsFilable filed
  total : n + length kept ≡ t
  count : m + length filed ≡ t
  head : h ≡ g

-- nothing follows the end
after_end : {h g : Heading} {n t : ℕ} {es : List Entry} → Run (Closed h n) es (Closed g t)
    → (es ≡ []) × (h ≡ g) × (n ≡ t)
after_end stays = (refl, refl, refl)
after_end (goes step run) = absurd (closed_stuck step)

module _ {h g : Heading} {n m t : ℕ} {es : List Entry} where
  -- the end alone
  the_end : {k : ℕ} → m ≡ n → k ≡ 1 + n + m → (es ≡ []) × (h ≡ g) × (n ≡ t) → ClosesBy h n m [] [] (end k ∷ es) g t
  the_end {k = k} even number last =
      let total = last.2 in
      let all : k ≡ 1 + t + t = omega arith in
      record {
        same = ap₂ (λ x xs. end x ∷ xs) all last.0;
        on =
            All-nil (λ s. is_on_frame h.frame.ticks s ≡ true);
        good = All-nil IsFilable;
        total = omega arith;
        count =
            omega arith;
        head = last.1;
      }

  -- one finding more in front, where no row follows
  one_finding : {filed : List Finding} (f : Finding) → IsFilable f → ClosesBy h n (m + 1) [] filed es g t
      → ClosesBy h n m [] (f ∷ filed) (finding f ∷ es) g t
  one_finding {filed} f good by =
      record {
        same = ap (λ xs. finding f ∷ xs) by.same;
        on = by.on;
        good =
            All-cons IsFilable f filed good by.good;
        total = by.total;
        count = omega (arith, by.count);
        head = by.head;
      }

  -- one row more in front
  one_row : {kept : List Row} {filed : List Finding} (r : Row) → is_on_frame h.frame.ticks r ≡ true
      → ClosesBy h (n + 1) m kept filed es g t → ClosesBy h n m (r ∷ kept) filed (row r ∷ es) g t
  one_row {kept} r on by =
      record {
        same = ap (λ xs. row r ∷ xs) by.same;
        on =
            All-cons (λ s. is_on_frame h.frame.ticks s ≡ true) r kept on by.on;
        good = by.good;
        total =
            omega (arith, by.total);
        count = by.count;
        head = by.head;
      }

findings_close : {h g : Heading} {n m t : ℕ} {es : List Entry} → Run (Findings h n m) es (Closed g t)
    → (filed : List Finding) × ClosesBy h n m [] filed es g t
findings_close (goes (finds {f = f} after_findings missing good) run) = let (filed, by) = findings_close run in
    (f ∷ filed, one_finding f good by)
findings_close (goes (closes after_findings even number) run) = ([], the_end even number (after_end run))

rows_close : {h g : Heading} {n t : ℕ} {es : List Entry} → Run (Rows h n) es (Closed g t)
    → (kept : List Row) × (filed : List Finding) × ClosesBy h n 0 kept filed es g t
rows_close (goes (stands {r = r} room on) run) = let (kept, filed, by) = rows_close run in
    (r ∷ kept, filed, one_row r on by)
rows_close (goes (finds {f = f} after_rows missing good) run) = let (filed, by) = findings_close run in
    ([], f ∷ filed, one_finding f good by)
rows_close (goes (closes after_rows even number) run) = ([], [], the_end even number (after_end run))

-- a run that closes a leaf is that of lawful contents
pub record Closing (es : List Entry) (g : Heading) (t : ℕ) : Type 0 where
  pub contents : Contents
  pub lawful : IsLawful contents
  pub same : es ≡ entries contents
  pub closed : Closed g t ≡ Closed contents.heading (length contents.rows)

pub closing : {es : List Entry} {g : Heading} {t : ℕ} → Run Opening es (Closed g t) → Closing es g t
closing {g = g} {t = t} (goes (opens {h = h}) run) =
    let (kept, filed, by) = rows_close run in
    let rows : length kept ≡ t = omega (arith, by.total) in
    let number : 1 + t + t ≡ 1 + length kept + length filed = omega (arith, by.count) in
    let few = (run_sound run (record { few = omega arith; orderly = omega arith })).few in
    record {
      contents = record { heading = h; rows = kept; findings = filed };
      lawful = record { few = omega arith; on = by.on; good = by.good; even = omega (arith, by.count) };
      same = ap (λ xs. heading h ∷ xs) (by.same ∙ ap (λ x. map row kept ++ (map finding filed ++ end x ∷ [])) number);
      closed = ap₂ Closed (sym by.head) (sym rows);
    }
closing (goes (finds takes missing good) run) = elim takes [ ]
closing (goes (closes takes even number) run) = elim takes [ ]

-- contents are known by their entries
same_findings : (fs gs : List Finding) (k l : ℕ) → map finding fs ++ end k ∷ [] ≡ map finding gs ++ end l ∷ [] → fs ≡ gs
same_findings [] [] k l same = refl
same_findings [] (g ∷ gs) k l same = cc
same_findings (f ∷ fs) [] k l same = cc
same_findings (f ∷ fs) (g ∷ gs) k l same =
    let one : f ≡ g = cc in
    let others : map finding fs ++ end k ∷ [] ≡ map finding gs ++ end l ∷ [] = cc in
    ap₂ ◌∷◌ one (same_findings fs gs k l others)

same_rows : (rs ss : List Row) (fs gs : List Finding) (k l : ℕ)
    → map row rs ++ (map finding fs ++ end k ∷ []) ≡ map row ss ++ (map finding gs ++ end l ∷ [])
    → (rs ≡ ss) × (fs ≡ gs)
same_rows [] [] fs gs k l same = (refl, same_findings fs gs k l same)
same_rows [] (s ∷ ss) [] gs k l same = cc
same_rows [] (s ∷ ss) (f ∷ fs) gs k l same = cc
same_rows (r ∷ rs) [] fs [] k l same = cc
same_rows (r ∷ rs) [] fs (g ∷ gs) k l same = cc
same_rows (r ∷ rs) (s ∷ ss) fs gs k l same =
    let one : r ≡ s = cc in
    let others : map row rs ++ (map finding fs ++ end k ∷ []) ≡ map row ss ++ (map finding gs ++ end l ∷ []) = cc in
    let later = same_rows rs ss fs gs k l others in
    (ap₂ ◌∷◌ one later.0, later.1)

pub same_contents : (c d : Contents) → entries c ≡ entries d → c ≡ d
same_contents c d same =
    let head : c.heading ≡ d.heading = cc in
    let tail : map row c.rows
    ++ (map finding c.findings ++ end (1 + length c.rows + length c.findings) ∷ []) ≡ map row d.rows
    ++ (map finding d.findings ++ end (1 + length d.rows + length d.findings) ∷ []) = cc in
    let both = same_rows c.rows d.rows c.findings d.findings _ _ tail in
    λ i. record { heading = head i; rows = both.0 i; findings = both.1 i }
