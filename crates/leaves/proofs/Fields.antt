-- The bodies of entries are known by their fields.
use Rattle.std.proofs.Common.{◌≡◌, ℕ, ◌^◌, ◌<◌, true, not, eqb, leb, List, [], ◌++◌, drop, sym, refl, ap, ◌∙◌, arith}
use Rattle.std.proofs.Common.{unwrap_or, if◌then◌else◌}
use Rattle.std.proofs.lemmas.Nat.{from_be_bytes-to_be_bytes_4}
use Rattle.std.proofs.lemmas.Bool.{and_parts, cond-false, leb-true, ne_eqb, not-false, or_parts}
use Rattle.rows.specs.declared.tasks.Row.{Row}
use Rattle.rows.specs.Judging.{plain}
use Rattle.rows.specs.Answers.{gives}
use Rattle.rows.specs.Frames.{frame_of}
use Rattle.rows.specs.Times.{horizon}
use Rattle.rows.proofs.SameRow.{same_row}
use Rattle.rows.specs.declared.verdicts.Finding.{Finding}
use Rattle.rows.specs.declared.verdicts.Verdict.{Verdict}
use Rattle.rows.specs.declared.verdicts.Verdict.TheVariants.{Meets, Misses}
use Rattle.rows.specs.Found.{verdict_rest, tells}
use Rattle.leaves.specs.declared.entries.Heading.{Heading}
use Rattle.leaves.specs.Bytes.{four, number_at}
use Rattle.bounds.specs.Families.{bound_numbers}
use Rattle.leaves.specs.Headings.{heading_plain}
use Rattle.leaves.specs.Judging.{is_in_range, IsFilable}
use Rattle.leaves.specs.Entries.{heading_body, row_body, finding_body, heading_size, row_size, finding_size, end_size}
use Rattle.leaves.proofs.SameHeading.{frame_near, same_heading}
use Rattle.leaves.specs.Fields.{heading_fields, row_fields, finding_fields, TellsBackwards}

-- the fields of a body are what it was made of
pub heading_again : (h : Heading) (xs : List ℕ)
    → heading_fields (heading_body (heading_plain h) ++ xs) ≡ heading_plain h
heading_again h xs =
    let frame = from_be_bytes-to_be_bytes_4 h.frame.ticks (omega (arith, frame_near h)) in
    λ i. record { frame = frame_of (frame i); bound = (bound_numbers h.bound).0; accuracy = (bound_numbers h.bound).1 }

pub row_again : (r : Row) (xs : List ℕ) → row_fields (row_body (plain r) ++ xs) ≡ plain r
row_again r xs =
    let work = from_be_bytes-to_be_bytes_4 r.work (omega (arith, r.roomy, r.timely, r.near)) in
    let deadline = from_be_bytes-to_be_bytes_4 r.deadline (omega (arith, r.timely, r.near)) in
    let period = from_be_bytes-to_be_bytes_4 r.period (omega (arith, r.near)) in
    let jitter = from_be_bytes-to_be_bytes_4 r.jitter (omega (arith, r.roomy, r.timely, r.near)) in
    λ i. record { work = work i; deadline = deadline i; period = period i; jitter = jitter i }

-- a verdict is known by the number that stands for it
verdict_of : ℕ → Verdict
verdict_of t = if eqb t 0 then Misses else Meets t

verdict_again : (v : Verdict) (xs : List ℕ) → is_in_range (verdict_rest v) ≡ true
    → verdict_of (number_at 0 (four (unwrap_or (verdict_rest v) 0) ++ xs)) ≡ v
unfolding verdict_of
verdict_again Misses xs fits = refl
verdict_again (Meets t) xs fits =
    let parts = and_parts (leb 1 t) (leb t horizon) fits in
    let low = leb-true 1 t parts.0 in
    let high = leb-true t horizon parts.1 in
    ap verdict_of (from_be_bytes-to_be_bytes_4 t (omega arith))
    ∙ cond-false (eqb t 0) Misses (Meets t) (ne_eqb t 0 (λ e. omega arith))

pub finding_again : (f : Finding) (xs : List ℕ) → IsFilable f → finding_fields (finding_body (tells f) ++ xs) ≡ f
unfolding verdict_of
finding_again f xs filable =
    let parts = or_parts (eqb f.points 0) (not (is_in_range (verdict_rest f.verdict))) filable.good in
    let verdict = verdict_again f.verdict (four f.points ++ xs) (not-false _ parts.1) in
    let points = from_be_bytes-to_be_bytes_4 f.points filable.fits in
    λ i. record { verdict = verdict i; points = points i }

-- the number that stands for a verdict fits four bytes
rest_fits : (v : Verdict) → is_in_range (verdict_rest v) ≡ true → unwrap_or (verdict_rest v) 0 < 2 ^ 32
rest_fits Misses fits = omega arith
rest_fits (Meets t) fits = omega (arith, leb-true t horizon (and_parts (leb 1 t) (leb t horizon) fits).1)

-- the body of a finding tells it from its last field back
pub finding_backwards : (f : Finding) → IsFilable f → TellsBackwards (finding_body (tells f)) (tells f)
finding_backwards f filable =
    let parts = or_parts (eqb f.points 0) (not (is_in_range (verdict_rest f.verdict))) filable.good in
    let rest = rest_fits f.verdict (not-false _ parts.1) in
    record {
      before = four (unwrap_or (verdict_rest f.verdict) 0);
      points = ap (λ n. gives (n, four (unwrap_or (verdict_rest f.verdict) 0)))
          (from_be_bytes-to_be_bytes_4 f.points filable.fits);
      rest = ap (λ n. gives (n, [])) (from_be_bytes-to_be_bytes_4 (unwrap_or (verdict_rest f.verdict) 0) rest);
    }

-- bodies that begin the same bytes are the same, and so is what follows them
pub heading_once : (g h : Heading) (xs ys : List ℕ)
    → heading_body (heading_plain g) ++ xs ≡ heading_body (heading_plain h) ++ ys → (g ≡ h) × (xs ≡ ys)
heading_once g h xs ys same = (
  same_heading g h (sym (heading_again g xs) ∙ ap heading_fields same ∙ heading_again h ys),
  ap (drop heading_size) same,
)

pub row_once : (r s : Row) (xs ys : List ℕ) → row_body (plain r) ++ xs ≡ row_body (plain s) ++ ys → (r ≡ s) × (xs ≡ ys)
row_once r s xs ys same =
    (same_row r s (sym (row_again r xs) ∙ ap row_fields same ∙ row_again s ys), ap (drop row_size) same)

pub finding_once : (f g : Finding) (xs ys : List ℕ) → IsFilable f → IsFilable g
    → finding_body (tells f) ++ xs ≡ finding_body (tells g) ++ ys → (f ≡ g) × (xs ≡ ys)
finding_once f g xs ys good fair same =
    (sym (finding_again f xs good) ∙ ap finding_fields same ∙ finding_again g ys fair, ap (drop finding_size) same)

pub number_once : (m n : ℕ) (xs ys : List ℕ) → m < 2 ^ 32 → n < 2 ^ 32 → four m ++ xs ≡ four n ++ ys
    → (m ≡ n) × (xs ≡ ys)
number_once m n xs ys small few same = (
  sym (from_be_bytes-to_be_bytes_4 m small) ∙ ap (number_at 0) same
      ∙ from_be_bytes-to_be_bytes_4 n few,
  ap (drop end_size) same,
)
