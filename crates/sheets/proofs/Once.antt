-- At most one answer fits bytes that are read as a sheet.
use Rattle.std.proofs.Common.{◌≡◌, ℕ, ◌+◌, ◌<◌, ◌≤◌, true, List, [], ◌∷◌, ◌++◌, map, length, drop, sym, refl, ap, ◌∙◌}
use Rattle.std.proofs.Common.{ap₂, subst, arith}
use Rattle.std.specs.List.{AllPass}
use Rattle.std.proofs.lemmas.List.Elements.{All-head, All-tail}
use Rattle.std.proofs.lemmas.List.{append_assoc, append-nil}
use Rattle.rows.specs.declared.refusals.Refusal.{Refusal}
use Rattle.rows.specs.declared.tasks.Row.{Row}
use Rattle.rows.specs.Answers.{Answer, gives, refuses, first_refusal}
use Rattle.rows.specs.Counting.{is_on_frame}
use Rattle.rows.specs.Times.{most_rows}
use Rattle.leaves.specs.declared.entries.Heading.{Heading}
use Rattle.leaves.specs.declared.entries.Entry.TheVariants.{Heading as heading, Row as row}
use Rattle.leaves.specs.Contents.{bytes_of}
use Rattle.leaves.specs.Entries.{entry_bytes}
use Rattle.leaves.proofs.Fields.{heading_once, row_once}
use Rattle.reading.specs.declared.phases.Phase.TheVariants.{Opening, Rows}
use Rattle.reading.specs.Checks.{next_checks}
use Rattle.reading.specs.Grammar.{opens, stands}
use Rattle.reading.specs.Phases.{place_of}
use Rattle.reading.proofs.Once.{again}
use Rattle.reading.proofs.Steps.{opening_sound, step_passes}
use Rattle.sheets.specs.Reading.{sheet_row_checks, sheet_phase_after, IsSheetRefusedAt, before_heading, in_rows}
use Rattle.sheets.specs.Reading.{FitsSheet, FitsOneSheet}
use Rattle.sheets.specs.Tables.{OnSheet, on_sheet, IsLawfulSheet, sheet_bytes}

-- no row can come next on a frame, after so many others, from these bytes
abbrev pub IsStuck : Heading → ℕ → List ℕ → Type 0
IsStuck h n left = (r : Row) (more : List ℕ) → n < most_rows → is_on_frame h.frame.ticks r ≡ true
    → left ≡ entry_bytes (row r) ++ more → ⊥

-- none comes where nothing is left
pub ended_stuck : (h : Heading) (n : ℕ) → IsStuck h n []
ended_stuck h n r more few on same = cc

-- no row comes where a check refuses
pub refused_stuck : (h : Heading) (n : ℕ) (number : Refusal) (at : ℕ) (left : List ℕ)
    → first_refusal (sheet_row_checks (Rows h n) left) ≡ refuses number at → IsStuck h n left
refused_stuck h n number at left refused r more few on same =
    let passes = ap (λ xs. first_refusal (sheet_row_checks (Rows h n) xs)) same
    ∙ step_passes (stands {h = h} {n = n} {r = r} few on) (record { few = omega arith; orderly = omega arith })
    (place_of (Rows h n)) more in
    let both = sym refused ∙ passes in
    cc

-- rows after which none can come are known by their bytes, and so is what follows
rows_once : (h : Heading) (n : ℕ) (rs ss : List Row) (xs ys : List ℕ) → n + length rs ≤ most_rows
    → n + length ss ≤ most_rows → AllPass (is_on_frame h.frame.ticks) rs → AllPass (is_on_frame h.frame.ticks) ss
    → IsStuck h (n + length rs) xs → IsStuck h (n + length ss) ys
    → bytes_of (map row rs) ++ xs ≡ bytes_of (map row ss) ++ ys → (rs ≡ ss) × (xs ≡ ys)
rows_once h n [] [] xs ys few room on level stuck held same = (refl, same)
rows_once h n [] (s ∷ ss) xs ys few room on level stuck held same =
    absurd (stuck s (bytes_of (map row ss) ++ ys) (omega arith)
    (All-head (λ t. is_on_frame h.frame.ticks t ≡ true) s ss level)
    (same ∙ append_assoc (entry_bytes (row s)) (bytes_of (map row ss)) ys))
rows_once h n (r ∷ rs) [] xs ys few room on level stuck held same =
    absurd (held r (bytes_of (map row rs) ++ xs) (omega arith)
    (All-head (λ t. is_on_frame h.frame.ticks t ≡ true) r rs on)
    (sym same ∙ append_assoc (entry_bytes (row r)) (bytes_of (map row rs)) xs))
rows_once h n (r ∷ rs) (s ∷ ss) xs ys few room on level stuck held same =
    let once = row_once r s (bytes_of (map row rs) ++ xs) (bytes_of (map row ss) ++ ys)
    (ap (drop 1) (sym (append_assoc (entry_bytes (row r)) (bytes_of (map row rs)) xs) ∙ same
    ∙ append_assoc (entry_bytes (row s)) (bytes_of (map row ss)) ys)) in
    let count : n + length (r ∷ rs) ≡ n + 1 + length rs = omega arith in
    let number : n + length (s ∷ ss) ≡ n + 1 + length ss = omega arith in
    let later = rows_once h (n + 1) rs ss xs ys (omega arith) (omega arith)
    (All-tail (λ t. is_on_frame h.frame.ticks t ≡ true) r rs on)
    (All-tail (λ t. is_on_frame h.frame.ticks t ≡ true) s ss level)
    (subst (λ m. IsStuck h m xs) count stuck) (subst (λ m. IsStuck h m ys) number held) once.1 in
    (ap₂ ◌∷◌ once.0 later.0, later.1)

-- sheets of tables after which no row can come are known by their bytes
pub tables_once : (t u : OnSheet) (xs ys : List ℕ) → IsLawfulSheet t → IsLawfulSheet u
    → IsStuck t.heading (length t.rows) xs → IsStuck u.heading (length u.rows) ys
    → sheet_bytes t ++ xs ≡ sheet_bytes u ++ ys → (t ≡ u) × (xs ≡ ys)
tables_once t u xs ys lawful fair stuck held same =
    let once = heading_once t.heading u.heading (bytes_of (map row t.rows) ++ xs) (bytes_of (map row u.rows) ++ ys)
    (ap (drop 1) (sym (append_assoc (entry_bytes (heading t.heading)) (bytes_of (map row t.rows)) xs) ∙ same
    ∙ append_assoc (entry_bytes (heading u.heading)) (bytes_of (map row u.rows)) ys)) in
    let count : length t.rows ≡ 0 + length t.rows = omega arith in
    let number : length u.rows ≡ 0 + length u.rows = omega arith in
    let later = rows_once t.heading 0 t.rows u.rows xs ys (omega (arith, lawful.few))
    (omega (arith, fair.few)) lawful.on
    (subst (λ h. AllPass (is_on_frame h.frame.ticks) u.rows) (sym once.0) fair.on)
    (subst (λ n. IsStuck t.heading n xs) count stuck)
    (subst (λ h. IsStuck h (0 + length u.rows) ys) (sym once.0) (subst (λ n. IsStuck u.heading n ys) number held))
    once.1 in
    (ap₂ on_sheet once.0 later.0, later.1)

-- no refusal comes before the heading of bytes that begin with a sheet
opened : (bytes : List ℕ) (t : OnSheet) (left : List ℕ) (number : Refusal) (at : ℕ) → bytes ≡ sheet_bytes t ++ left
    → first_refusal (next_checks Opening 0 bytes) ≡ refuses number at → ⊥
opened bytes t left number at same refused =
    let passes = ap (λ xs. first_refusal (next_checks Opening 0 xs))
    (same ∙ append_assoc (entry_bytes (heading t.heading)) (bytes_of (map row t.rows)) left)
    ∙ step_passes (opens {h = t.heading}) opening_sound 0 (bytes_of (map row t.rows) ++ left) in
    let both = sym refused ∙ passes in
    cc

-- a table and a refusal do not both fit
not_both : (bytes : List ℕ) (t : OnSheet) (number : Refusal) (at : ℕ) → FitsSheet bytes (gives t)
    → IsSheetRefusedAt bytes number at → ⊥
not_both bytes t number at fits (before_heading refused) =
    opened bytes t [] number at (fits.1 ∙ sym (append-nil (sheet_bytes t))) refused
not_both bytes t number at fits (in_rows u left lawful split refused) =
    let both = tables_once t u [] left fits.0 lawful (ended_stuck t.heading (length t.rows))
    (refused_stuck u.heading (length u.rows) number at left refused)
    (append-nil (sheet_bytes t) ∙ sym fits.1 ∙ split) in
    let none = ap (λ xs. first_refusal (sheet_row_checks (sheet_phase_after u) xs)) both.1 ∙ refused in
    cc

-- two refusals that fit are one
one_refusal : (bytes : List ℕ) (n : Refusal) (at : ℕ) (m : Refusal) (to : ℕ) → IsSheetRefusedAt bytes n at
    → IsSheetRefusedAt bytes m to → ◌≡◌ {A = Answer OnSheet} (refuses n at) (refuses m to)
one_refusal bytes n at m to (before_heading refused) (before_heading also) = again n at m to (sym refused ∙ also)
one_refusal bytes n at m to (before_heading refused) (in_rows t left lawful split also) =
    absurd (opened bytes t left n at split refused)
one_refusal bytes n at m to (in_rows t left lawful split refused) (before_heading also) =
    absurd (opened bytes t left m to split also)
one_refusal bytes n at m to (in_rows t left lawful split refused) (in_rows u rest fair same also) =
    let both = tables_once t u left rest lawful fair (refused_stuck t.heading (length t.rows) n at left refused)
    (refused_stuck u.heading (length u.rows) m to rest also) (sym split ∙ same) in
    again n at m to
    (sym refused ∙ ap₂ (λ v xs. first_refusal (sheet_row_checks (sheet_phase_after v) xs)) both.0 both.1 ∙ also)

pub fits_once : FitsOneSheet
fits_once bytes (gives t) (gives u) fits also =
    ap gives (tables_once t u [] [] fits.0 also.0 (ended_stuck t.heading (length t.rows))
    (ended_stuck u.heading (length u.rows))
    (append-nil (sheet_bytes t) ∙ sym fits.1 ∙ also.1 ∙ sym (append-nil (sheet_bytes u)))).0
fits_once bytes (gives t) (refuses n at) fits also = absurd (not_both bytes t n at fits also)
fits_once bytes (refuses n at) (gives u) fits also = absurd (not_both bytes u n at also fits)
fits_once bytes (refuses n at) (refuses m to) fits also = one_refusal bytes n at m to fits also
