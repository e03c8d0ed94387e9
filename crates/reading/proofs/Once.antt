-- At most one answer fits a string of bytes.
use Rattle.std.proofs.Common.{refl, ◌≡◌, ℕ, List, [], ◌++◌, length, sym, ap, ◌∙◌, ap₂, subst, true, Some, None}
use Rattle.std.proofs.lemmas.Bool.{false≢true}
use Rattle.std.proofs.lemmas.List.{append-nil}
use Rattle.rows.specs.declared.refusals.Refusal.{Refusal}
use Rattle.rows.specs.Answers.{Answer, gives, refuses, first_refusal}
use Rattle.leaves.specs.declared.entries.Entry.{Entry}
use Rattle.leaves.specs.Contents.{Contents, entries, bytes_of, encoding}
use Rattle.reading.specs.declared.phases.Phase.{Phase}
use Rattle.reading.specs.declared.phases.Phase.TheVariants.{Opening, Rows, Findings, Closed}
use Rattle.reading.specs.Checks.{next_checks}
use Rattle.reading.specs.Grammar.{Step, Run}
use Rattle.reading.specs.Phases.{is_closed, IsSound}
use Rattle.reading.specs.Stepping.{Reading, reading, TakesOnce}
use Rattle.reading.specs.Whole.{IsRefusedAt, Fits, FitsOnce}
use Rattle.reading.proofs.Steps.{opening_sound, step_passes, step_once, closed_stuck}
use Rattle.reading.proofs.Runs.{run_sound, IsStuck, run_once}
use Rattle.reading.proofs.Contents.{lawful_run, same_contents}

-- after a refusal no entry can come
refused_stuck : {bytes : List ℕ} {n : Refusal} {place : ℕ} (r : IsRefusedAt bytes n place) → IsStuck r.phase r.left
refused_stuck r e q more step split =
    let passes = ap (λ xs. first_refusal (next_checks r.phase (length (bytes_of r.before)) xs)) split
    ∙ step_passes step (run_sound r.run opening_sound) (length (bytes_of r.before)) more in
    let both = sym r.fails ∙ passes in
    cc

-- nothing leads on from a closed phase
closed_stays : (p q : Phase) (e : Entry) → is_closed p ≡ true → Step p e q → ⊥
closed_stays Opening q e closed step = false≢true closed
closed_stays (Rows h n) q e closed step = false≢true closed
closed_stays (Findings h n m) q e closed step = false≢true closed
closed_stays (Closed h n) q e closed step = closed_stuck step

-- a reader that is sound takes one entry or none
pub takes_once : (old : Reading) → IsSound old.phase → TakesOnce old
takes_once old sound None None new other none also = (refl, none.2 ∙ sym also.2)
takes_once old sound None (Some e) new other none taken =
    absurd (closed_stays old.phase other.phase e none.0 taken.step)
takes_once old sound (Some e) None new other taken none = absurd (closed_stays old.phase new.phase e none.0 taken.step)
takes_once old sound (Some e) (Some f) new other taken also =
    let once = step_once taken.step also.step sound new.left other.left (sym taken.split ∙ also.split) in
    (ap Some once.0, ap₂ reading once.1 once.2)

-- what fits contents, beside another run
module _ (bytes : List ℕ) (c : Contents) (fits : Fits bytes (gives c)) {es : List Entry} {p : Phase} (left : List ℕ)
    (split : bytes ≡ bytes_of es ++ left) (run : Run Opening es p) (stuck : IsStuck p left) where
  beside : (entries c ≡ es) × (Closed c.heading (length c.rows) ≡ p) × ([] ≡ left)
  beside = run_once (lawful_run c fits.0) run opening_sound [] left (λ e q more step split. closed_stuck step) stuck
      (append-nil (encoding c) ∙ sym fits.1 ∙ split)

-- contents and a refusal do not both fit
not_both : (bytes : List ℕ) (c : Contents) (n : Refusal) (at : ℕ) → Fits bytes (gives c) → IsRefusedAt bytes n at → ⊥
not_both bytes c n at fits r =
    let both = beside bytes c fits r.left r.split r.run (refused_stuck r) in
    let none = ap₂ (λ p xs. first_refusal (next_checks p (length (bytes_of r.before)) xs)) both.1 both.2 in
    let fails = none ∙ r.fails in
    cc

-- a refusal is known by its number and its place
pub again : {A B : Type 0} (n : Refusal) (at : ℕ) (m : Refusal) (to : ℕ)
    → ◌≡◌ {A = Answer A} (refuses n at) (refuses m to) → ◌≡◌ {A = Answer B} (refuses n at) (refuses m to)
again n at m to same = let number : n ≡ m = cc in let place : at ≡ to = cc in ap₂ refuses number place

pub fits_once : FitsOnce
fits_once bytes (gives c) (gives d) fits also =
    ap gives (same_contents c d
    (beside bytes c fits [] (also.1 ∙ sym (append-nil (encoding d))) (lawful_run d also.0)
    (λ e q more step split. closed_stuck step)).0)
fits_once bytes (gives c) (refuses n at) fits also = absurd (not_both bytes c n at fits also)
fits_once bytes (refuses n at) (gives d) fits also = absurd (not_both bytes d n at also fits)
fits_once bytes (refuses n at) (refuses m to) fits also =
    let both = run_once fits.run also.run opening_sound fits.left also.left (refused_stuck fits) (refused_stuck also)
    (sym fits.split ∙ also.split) in
    let place = ap (λ es. length (bytes_of es)) both.0 in
    let moved = ap (λ n. first_refusal (next_checks fits.phase n fits.left)) place
    ∙ ap₂ (λ p xs. first_refusal (next_checks p (length (bytes_of also.before)) xs)) both.1 both.2 in
    again n at m to (sym fits.fails ∙ moved ∙ also.fails)

-- what is said of one answer that fits is said of each
pub said_of_each : (P : Answer Contents → Type 0) (bytes : List ℕ) (a : Answer Contents) → Fits bytes a → P a
    → (b : Answer Contents) → Fits bytes b → P b
said_of_each P bytes a fits said b also = subst P (fits_once bytes a b fits also) said
