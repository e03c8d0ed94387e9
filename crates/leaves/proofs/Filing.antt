-- What can be filed passes its checks, and what passes can be filed.
use Rattle.std.proofs.Common.{◌≡◌, ℕ, ◌+◌, ◌%◌, true, not, eqb, List, [], ◌∷◌, Some, None, Option, refl, sym, ap, ◌∙◌}
use Rattle.std.proofs.Common.{arith}
use Rattle.std.specs.Option.{option_map}
use Rattle.std.proofs.lemmas.Bool.{le-ltb, ne_eqb, not-false, not_from_true}
use Rattle.rows.specs.declared.frames.FrameNumbers.{FrameNumbers}
use Rattle.rows.specs.declared.judging.Flaw.TheVariants.{Idle, Cramped, Late, Long, Off}
use Rattle.rows.specs.declared.refusals.Refusal.TheVariants.{BadFrame, IdleRow, NoWindow, LateDeadline}
use Rattle.rows.specs.declared.refusals.Refusal.TheVariants.{LongPeriod, OffFrame}
use Rattle.rows.specs.declared.tasks.Numbers.{Numbers}
use Rattle.rows.specs.declared.tasks.Row.{Row}
use Rattle.rows.specs.Answers.{Check, checked, first_refusal, gives, Passes, refuses_at}
use Rattle.rows.specs.Counting.{is_on_frame}
use Rattle.rows.specs.Frames.{IsFrame, frame_checks}
use Rattle.rows.specs.Judging.{plain, row_flaws, frame_flaws, flaw_check, flaw_checks, has_flaw}
use Rattle.rows.specs.Times.{horizon, is_frame}
use Rattle.rows.proofs.Checks.{first_passes, given_is, passed_first, passes_on}
use Rattle.bounds.specs.declared.supplied.Supplied.{Supplied}
use Rattle.bounds.proofs.SameBound.{named_passes}
use Rattle.leaves.specs.declared.entries.Heading.{Heading}
use Rattle.bounds.specs.Families.{bound_numbers, named_checks}
use Rattle.leaves.specs.Headings.{told_at, bound_checks, heading_plain, heading_checks}

-- where no check refuses, none does so that tells another position
pub all_pass : (at : ℕ) (cs : List Check) → Passes cs → Passes (told_at at cs)
all_pass at [] passes = refl
all_pass at (c ∷ cs) passes = by c.at passes (all_pass at cs)
  where
    by : (o : Option ℕ) → gives tt ≡ refuses_at c.refusal o (first_refusal cs) → (Passes cs → Passes (told_at at cs))
        → gives tt ≡ refuses_at c.refusal (option_map (λ _. at) o) (first_refusal (told_at at cs))
    by (Some p) here later = cc
    by None here later = later here

-- the numbers of a frame pass their checks
pub framed : (h : FrameNumbers) → IsFrame h → first_refusal (frame_checks h) ≡ gives tt
framed h is = passes_on (not (is_frame h.ticks)) BadFrame 0 _ (not_from_true (is_frame h.ticks) is.ticks)

-- the numbers of a heading pass their checks
pub heading_passes : (h : Heading) (at : ℕ) → first_refusal (heading_checks (heading_plain h) at) ≡ gives tt
heading_passes h at =
    sym (passed_first (told_at at (frame_checks h.frame)) (bound_checks (heading_plain h) at) tt tt
    (all_pass at (frame_checks h.frame) (sym (framed h.frame h.framed))) tt) ∙ named h.bound
  where
    named : (b : Supplied)
        → first_refusal
        (bound_checks (record { frame = h.frame; bound = (bound_numbers b).0; accuracy = (bound_numbers b).1 }) at)
        ≡ gives tt
    named b = sym (all_pass at (named_checks (bound_numbers b).0 (bound_numbers b).1) (sym (named_passes b)))

-- the numbers of a row pass their checks
pub numbers_pass : (r : Row) (at : ℕ) → first_refusal (flaw_checks row_flaws (plain r) at) ≡ gives tt
numbers_pass r at =
    let busy = ne_eqb r.work 0 (λ e. omega (arith, r.busy)) in
    let roomy = le-ltb r.deadline (r.work + r.jitter) r.roomy in
    let timely = le-ltb r.period r.deadline r.timely in
    let near = le-ltb horizon r.period r.near in
    rw (busy, roomy, timely, near)

-- on the frame too
pub row_passes : (h : FrameNumbers) (r : Row) (at : ℕ) → is_on_frame h.ticks r ≡ true
    → first_refusal (flaw_checks (frame_flaws h) (plain r) at) ≡ gives tt
row_passes h r at on =
    let off = not_from_true (eqb (h.ticks % r.period) 0) on in
    sym (passed_first (flaw_checks row_flaws (plain r) at) (flaw_check (plain r) at (Off h) ∷ []) tt tt
    (sym (numbers_pass r at)) tt)
    ∙ passes_on (has_flaw (Off h) (plain r)) OffFrame at (gives tt) off

-- a row that was judged on a frame stands on it
pub judged_on : (h : FrameNumbers) (at : ℕ) (r : Row) (n : Numbers)
    → gives (plain r) ≡ checked (flaw_checks (frame_flaws h) n at) n → is_on_frame h.ticks r ≡ true
judged_on h at r n given =
    let same = given_is (flaw_checks (frame_flaws h) n at) (plain r) n given in
    let busy = first_passes (has_flaw Idle n) IdleRow at (plain r) _ given in
    let roomy = first_passes (has_flaw Cramped n) NoWindow at (plain r) _ busy.1 in
    let timely = first_passes (has_flaw Late n) LateDeadline at (plain r) _ roomy.1 in
    let near = first_passes (has_flaw Long n) LongPeriod at (plain r) _ timely.1 in
    let on = first_passes (has_flaw (Off h) n) OffFrame at (plain r) _ near.1 in
    ap (λ m. eqb (h.ticks % m.period) 0) same ∙ not-false _ on.0
