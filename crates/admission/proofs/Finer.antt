-- A more accurate linear tail admits no less, and its rows rest no later.
use Rattle.std.proofs.Common.{◌≡◌, ℕ, ◌≤◌, List, ◌∷◌, sym, ◌∙◌, subst}
use Rattle.std.specs.List.{AllPass}
use Rattle.rows.specs.declared.tasks.Numbers.{Numbers}
use Rattle.rows.specs.declared.frames.FrameNumbers.{FrameNumbers}
use Rattle.rows.specs.declared.tasks.Row.{Row}
use Rattle.rows.specs.Answers.{gives}
use Rattle.bounds.specs.Supplied.{linear_tail}
use Rattle.findings.specs.Countable.{StandOn}
use Rattle.findings.specs.Findings.{row_finding}
use Rattle.findings.specs.Tables.{findings_of}
use Rattle.brackets.specs.Bracketing.{IsNoLater}
use Rattle.brackets.proofs.Earlier.{some_earlier}
use Rattle.brackets.proofs.Tails.{finer_tails}
use Rattle.admission.specs.declared.calls.Call.TheVariants.{Admit}
use Rattle.rows.specs.Found.{is_met}
use Rattle.rows.specs.Books.{Book}
use Rattle.admission.specs.Books.{with_newcomer, step}
use Rattle.admission.specs.Promises.{FinerAdmits, FinerAdmitsOn, FinerRests, FinerRestsOn}
use Rattle.admission.specs.Replies.{done}
use Rattle.admission.specs.Runs.{book_after}
use Rattle.admission.proofs.Findings.{each_meets, all_met}
use Rattle.admission.proofs.Steps.{step_answers, stands_before, stands_with, runs_sound, admits, admitted}

-- rows that meet by a linear tail meet by every more accurate one
finer_meet : (k k' : ℕ) (h : FrameNumbers) (rows : List Row) → 1 ≤ k → k ≤ k' → StandOn h.ticks rows
    → AllPass is_met (findings_of (linear_tail k) h rows) → AllPass is_met (findings_of (linear_tail k') h rows)
finer_meet k k' h rows low order stand met =
    all_met (linear_tail k') h rows
    (λ xs ys r split.
    some_earlier _ _ (finer_tails k k' h r xs low order (stands_before h.ticks rows xs (r ∷ ys) stand split))
    (each_meets (linear_tail k) h rows met xs ys r split))

-- on a book that is sound a newcomer that a linear tail admits is admitted by every more accurate one
finer_admit : (k k' : ℕ) (b : Book) (rank : ℕ) (n : Numbers) → 1 ≤ k → k ≤ k' → StandOn b.frame.ticks b.rows
    → (step (linear_tail k) b (Admit rank n)).1 ≡ gives done → (step (linear_tail k') b (Admit rank n)).1 ≡ gives done
finer_admit k k' b rank n low order stand admitted_so =
    let m = linear_tail k in
    let passed = admitted m b rank n done done (sym admitted_so ∙ step_answers m b (Admit rank n)) in
    let meet = finer_meet k k' b.frame (with_newcomer rank n b.rows) low order (stands_with b rank n stand passed.1)
    passed.2 in
    step_answers (linear_tail k') b (Admit rank n) ∙ sym (admits (linear_tail k') b rank n passed.0 meet)

-- so it is on every book whose rows stand on its frame
pub finer_admits_on : (b : Book) → StandOn b.frame.ticks b.rows → FinerAdmitsOn b
finer_admits_on b stand k k' low order rank n admits = finer_admit k k' b rank n low order stand admits

-- on such a book no row rests later by the more accurate
pub finer_rests_on : (b : Book) → StandOn b.frame.ticks b.rows → FinerRestsOn b
finer_rests_on b stand k k' low order xs ys r split =
    finer_tails k k' b.frame r xs low order (stands_before b.frame.ticks b.rows xs (r ∷ ys) stand split)

-- of benches whose books have come to agree the more accurate admits what the other does
pub finer_admits : FinerAdmits
finer_admits k k' calls calls' low order same rank n admits =
    let b = book_after (linear_tail k) calls in
    subst (λ b. (step (linear_tail k') b (Admit rank n)).1 ≡ gives done) same
    (finer_admits_on b (runs_sound (linear_tail k) calls).stand k k' low order rank n admits)

-- of benches whose books have come to agree no row rests later by the more accurate
pub finer_rests : FinerRests
finer_rests k k' calls calls' low order same xs ys r split =
    let b = book_after (linear_tail k) calls in
    subst (λ other.
    IsNoLater (row_finding (linear_tail k') other.frame r xs).rest (row_finding (linear_tail k) b.frame r xs).rest)
    same (finer_rests_on b (runs_sound (linear_tail k) calls).stand k k' low order xs ys r split)
