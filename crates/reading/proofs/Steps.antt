-- One step of the grammar: where it leads, that the checks let it pass, and that no bytes allow two.
use Rattle.std.proofs.Common.{◌≡◌, ℕ, ◌+◌, ◌<◌, ◌≤◌, true, not, eqb, ltb, leb, List, ◌∷◌, ◌++◌, ◌||◌, ⊎_elim, drop}
use Rattle.std.proofs.Common.{length, get_or, Some, None, refl, ap, ◌∙◌, arith, if◌then◌else◌}
use Rattle.std.proofs.lemmas.Nat.{from_be_bytes-to_be_bytes_4}
use Rattle.std.proofs.lemmas.Bool.{eq-eqb, le-ltb, lt-leb, ltb-true, not_from_true, or_cases}
use Rattle.rows.specs.declared.refusals.Refusal.TheVariants.{FullTable, CutLeaf, Miscount, BadFinding}
use Rattle.rows.specs.Answers.{Answer, gives, refuses_at, first_refusal}
use Rattle.rows.specs.Judging.{plain, frame_flaws, flaw_checks}
use Rattle.rows.specs.Times.{most_rows}
use Rattle.rows.proofs.Checks.{passes_on}
use Rattle.rows.specs.declared.verdicts.Finding.{Finding}
use Rattle.rows.specs.Found.{tells}
use Rattle.leaves.specs.declared.entries.Heading.{Heading}
use Rattle.leaves.specs.declared.entries.Entry.{Entry}
use Rattle.leaves.specs.declared.entries.Entry.TheVariants.{Heading as heading, Row as row, Finding as finding}
use Rattle.leaves.specs.declared.entries.Entry.TheVariants.{End as end}
use Rattle.leaves.specs.Bytes.{four, number_at}
use Rattle.leaves.specs.Headings.{heading_plain, heading_checks}
use Rattle.leaves.specs.Judging.{is_bad_finding, finding_checks, IsFilable}
use Rattle.leaves.specs.Entries.{entry_bytes, heading_body, row_body, finding_body, heading_size, row_size}
use Rattle.leaves.specs.Entries.{finding_size, end_size}
use Rattle.reading.specs.declared.phases.Phase.{Phase}
use Rattle.reading.specs.declared.phases.Phase.TheVariants.{Opening, Rows, Closed}
use Rattle.reading.specs.Checks.{next_checks, finding_entry_checks, end_entry_checks}
use Rattle.reading.specs.Grammar.{after_rows, after_findings, Step, opens, stands, finds, closes}
use Rattle.reading.specs.Phases.{place_of, IsSound}
use Rattle.leaves.proofs.Filing.{heading_passes, row_passes}
use Rattle.leaves.proofs.Fields.{heading_again, row_again, finding_again, heading_once, row_once, finding_once}
use Rattle.leaves.proofs.Fields.{number_once}

-- a reader before the first byte is sound
pub opening_sound : IsSound Opening
opening_sound = record { few = omega arith; orderly = omega arith }

-- a reader after a step is sound
pub step_sound : {p q : Phase} {e : Entry} → Step p e q → IsSound p → IsSound q
step_sound opens sound = record { few = omega arith; orderly = omega arith }
step_sound (stands room on) sound = record { few = omega arith; orderly = omega arith }
step_sound (finds after_rows missing good) sound = record { few = sound.few; orderly = omega arith }
step_sound (finds after_findings missing good) sound = record { few = sound.few; orderly = omega arith }
step_sound (closes after_rows even number) sound = record { few = sound.few; orderly = omega arith }
step_sound (closes after_findings even number) sound = record { few = sound.few; orderly = omega arith }

-- a reader after a step is placed after the bytes of the entry
pub step_place : {p q : Phase} {e : Entry} → Step p e q → place_of p + length (entry_bytes e) ≡ place_of q
step_place opens = refl
step_place (stands room on) = omega arith
step_place (finds after_rows missing good) = omega arith
step_place (finds after_findings missing good) = omega arith
step_place (closes after_rows even number) = omega arith
step_place (closes after_findings even number) = omega arith

-- a body that is long enough is not cut
pub uncut : {A : Type 0} (size at : ℕ) (body : List ℕ) (others : Answer A) → size ≤ length body
    → refuses_at CutLeaf (if ltb (length body) size then Some (at + 1 + length body) else None) others ≡ others
uncut size at body others enough =
    passes_on (ltb (length body) size) CutLeaf (at + 1 + length body) others (le-ltb (length body) size enough)

-- the checks of A and Z in a phase that takes findings
finding_passes : (rows findings at : ℕ) (f : Finding) (xs : List ℕ) → findings < rows → IsFilable f
    → first_refusal (finding_entry_checks rows findings at (finding_body (tells f) ++ xs)) ≡ gives tt
finding_passes rows findings at f xs missing good =
    passes_on (leb rows findings) Miscount at _ (lt-leb rows findings missing)
    ∙ uncut finding_size at (finding_body (tells f) ++ xs) _ (omega arith)
    ∙ ap (λ g. first_refusal (finding_checks g at)) (finding_again f xs good)
    ∙ passes_on (is_bad_finding f) BadFinding at _ good.good

end_passes : (rows findings at k : ℕ) (xs : List ℕ) → findings ≤ most_rows → findings ≡ rows → k ≡ 1 + rows + findings
    → first_refusal (end_entry_checks rows findings at (four k ++ xs)) ≡ gives tt
end_passes rows findings at k xs few even number =
    passes_on (ltb findings rows) Miscount at _ (le-ltb findings rows (omega arith))
    ∙ uncut end_size at (four k ++ xs) _ (omega arith)
    ∙ passes_on (not (eqb (number_at 0 (four k ++ xs)) (1 + rows + findings))) Miscount at _
    (not_from_true _
    (eq-eqb (number_at 0 (four k ++ xs)) (1 + rows + findings)
    (from_be_bytes-to_be_bytes_4 k (omega arith) ∙ number)))

-- the checks let a step pass
pub step_passes : {p q : Phase} {e : Entry} → Step p e q → IsSound p → (at : ℕ) (xs : List ℕ)
    → first_refusal (next_checks p at (entry_bytes e ++ xs)) ≡ gives tt
step_passes (opens {h = h}) sound at xs =
    uncut heading_size at (heading_body (heading_plain h) ++ xs) _ (omega arith)
    ∙ ap (λ n. first_refusal (heading_checks n at)) (heading_again h xs) ∙ heading_passes h at
step_passes (stands {h = h} {n = n} {r = r} room on) sound at xs =
    passes_on (leb most_rows n) FullTable at _ (lt-leb most_rows n room)
    ∙ uncut row_size at (row_body (plain r) ++ xs) _ (omega arith)
    ∙ ap (λ m. first_refusal (flaw_checks (frame_flaws h.frame) m at)) (row_again r xs)
    ∙ row_passes h.frame r at on
step_passes (finds {f = f} after_rows missing good) sound at xs = finding_passes _ _ at f xs missing good
step_passes (finds {f = f} after_findings missing good) sound at xs = finding_passes _ _ at f xs missing good
step_passes (closes {k = k} after_rows even number) sound at xs = end_passes _ _ at k xs (omega arith) even number
step_passes (closes {k = k} after_findings even number) sound at xs =
    end_passes _ _ at k xs (omega (arith, sound.few)) even number

-- nothing leads on from the end
pub closed_stuck : {h : Heading} {n : ℕ} {e : Entry} {q : Phase} → Step (Closed h n) e q → ⊥
closed_stuck (finds takes missing good) = elim takes [ ]
closed_stuck (closes takes even number) = elim takes [ ]

-- bytes that begin with different letters are not the same
apart : {A : Type 0} (k j : ℕ) (xs ys : List ℕ) → ltb k j || ltb j k ≡ true → k ∷ xs ≡ j ∷ ys → A
apart k j xs ys differ same =
    let letter = ap (λ bytes. get_or bytes 0 0) same in
    absurd (⊎_elim (λ low. omega (arith, ltb-true k j low)) (λ high. omega (arith, ltb-true j k high))
    (or_cases (ltb k j) (ltb j k) differ))

-- what follows the letter
after_letter : (k : ℕ) (xs ys : List ℕ) → k ∷ xs ≡ k ∷ ys → xs ≡ ys
after_letter k xs ys same = ap (drop 1) same

-- no bytes allow two steps from a phase
pub step_once : {p q s : Phase} {e f : Entry} → Step p e q → Step p f s → IsSound p → (xs ys : List ℕ)
    → entry_bytes e ++ xs ≡ entry_bytes f ++ ys → (e ≡ f) × (q ≡ s) × (xs ≡ ys)
step_once (opens {h = g}) (opens {h = h}) sound xs ys same =
    let both = heading_once g h xs ys (after_letter _ _ _ same) in
    (ap heading both.0, ap (λ x. Rows x 0) both.0, both.1)
step_once opens (finds takes missing good) sound xs ys same = elim takes [ ]
step_once opens (closes takes even number) sound xs ys same = elim takes [ ]
step_once (stands {r = r} room on) (stands {r = t} space in_frame) sound xs ys same =
    let both = row_once r t xs ys (after_letter _ _ _ same) in (ap row both.0, refl, both.1)
step_once (stands room on) (finds after_rows missing good) sound xs ys same = apart _ _ _ _ refl same
step_once (stands room on) (closes after_rows even number) sound xs ys same = apart _ _ _ _ refl same
step_once (finds after_rows missing good) (stands room on) sound xs ys same = apart _ _ _ _ refl same
step_once (finds {f = f} after_rows missing good) (finds {f = g} after_rows lacking fair) sound xs ys same =
    let both = finding_once f g xs ys good fair (after_letter _ _ _ same) in (ap finding both.0, refl, both.1)
step_once (finds after_rows missing good) (closes after_rows even number) sound xs ys same = apart _ _ _ _ refl same
step_once (finds {f = f} after_findings missing good) (finds {f = g} after_findings lacking fair) sound xs ys same =
    let both = finding_once f g xs ys good fair (after_letter _ _ _ same) in (ap finding both.0, refl, both.1)
step_once (finds after_findings missing good) (closes after_findings even number) sound xs ys same =
    apart _ _ _ _ refl same
step_once (closes after_rows even number) (stands room on) sound xs ys same = apart _ _ _ _ refl same
step_once (closes after_rows even number) (finds after_rows missing good) sound xs ys same = apart _ _ _ _ refl same
step_once (closes {k = k} after_rows even number) (closes {k = j} after_rows level count) sound xs ys same =
    let both = number_once k j xs ys (omega (arith, sound.few)) (omega (arith, sound.few)) (after_letter _ _ _ same) in
    (ap end both.0, refl, both.1)
step_once (closes after_findings even number) (finds after_findings missing good) sound xs ys same =
    apart _ _ _ _ refl same
step_once (closes {k = k} after_findings even number) (closes {k = j} after_findings level count) sound xs ys same =
    let both = number_once k j xs ys (omega (arith, sound.few)) (omega (arith, sound.few)) (after_letter _ _ _ same) in
    (ap end both.0, refl, both.1)
