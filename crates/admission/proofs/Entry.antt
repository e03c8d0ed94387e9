-- What has passed where an admit is answered, or refused for overload.
use Rattle.std.proofs.Common.{◌≡◌, ◌≢◌, ℕ, ◌+◌, ◌<◌, ◌≤◌, Bool, true, not, eqb, leb, List, [], ◌∷◌, ◌++◌, length}
use Rattle.std.proofs.Common.{Some, None, Option, refl, ap, arith}
use Rattle.std.specs.List.{list_all, cons_option}
use Rattle.std.proofs.lemmas.Bool.{and_parts, both_ways, not-false, not-true, eq-eqb, eqb-false, ltb-false, leb-false}
use Rattle.rows.specs.declared.judging.Flaw.TheVariants.{Idle, Cramped, Late, Long, Off}
use Rattle.rows.specs.declared.refusals.Refusal.TheVariants.{IdleRow, NoWindow, LateDeadline, LongPeriod, OffFrame}
use Rattle.rows.specs.declared.refusals.Refusal.TheVariants.{FullTable}
use Rattle.rows.specs.declared.tasks.Numbers.{Numbers}
use Rattle.rows.specs.declared.tasks.Row.{Row}
use Rattle.rows.specs.Answers.{Answer, gives, refuses, refuses_at, Check, checked, Passes}
use Rattle.rows.specs.Counting.{is_on_frame}
use Rattle.rows.specs.Judging.{has_flaw, rows_of}
use Rattle.rows.specs.Refusals.{number}
use Rattle.rows.specs.Times.{horizon, most_rows}
use Rattle.rows.proofs.Checks.{first_passes}
use Rattle.rows.proofs.SameRow.{row_of_plain}
use Rattle.rows.specs.Books.{Book}
use Rattle.rows.proofs.Ranked.{ranked}
use Rattle.admission.specs.Books.{entry_checks}

-- a check does not make an answer: its refusal is another
abbrev pub is_not_of : {A : Type 0} → Answer A → Check → Bool
is_not_of (gives x) c = true
is_not_of (refuses n at) c = not (eqb (number c.refusal) (number n))

-- what the first checks do not make is left to those after them, and they pass
pub left_to : {A : Type 0} (cs ds : List Check) (a : Answer A) (y : A) → list_all (is_not_of a) cs ≡ true
    → a ≡ checked (cs ++ ds) y → Passes cs × (a ≡ checked ds y)
left_to [] ds a y others answered = (refl, answered)
left_to {A = A} (c ∷ cs) ds a y others answered =
    let parts = and_parts (is_not_of a c) (list_all (is_not_of a) cs) others in
    by c.at answered (λ later. left_to cs ds a y parts.1 later)
  where
    not_here : (a : Answer A) (p : ℕ) → is_not_of a c ≡ true → a ≡ refuses c.refusal p → ⊥
    not_here (gives x) p other here = cc
    not_here (refuses n at) p other here =
        let same : c.refusal ≡ n = cc in
        both_ways (eqb (number c.refusal) (number n)) (not-true (eqb (number c.refusal) (number n)) other)
        (eq-eqb (number c.refusal) (number n) (ap number same))

    by : (o : Option ℕ) → a ≡ refuses_at c.refusal o (checked (cs ++ ds) y)
        → (a ≡ checked (cs ++ ds) y → Passes cs × (a ≡ checked ds y))
        → (gives (tt {0}) ≡ refuses_at c.refusal o (checked cs tt)) × (a ≡ checked ds y)
    by (Some p) here later = absurd (not_here a p (and_parts (is_not_of a c) (list_all (is_not_of a) cs) others).0 here)
    by None here later = later here

-- the four numbers are a row on the frame, there is a place for it, and a rank
pub record Enters (b : Book) (rank : ℕ) (n : Numbers) : Type 0 where
  pub row : Row
  pub made : rows_of (n ∷ []) ≡ row ∷ []
  pub on : is_on_frame b.frame.ticks row ≡ true
  pub room : length b.rows < most_rows
  pub low : 1 ≤ rank
  pub high : rank ≤ length b.rows + 1

-- what passes those checks enters so
pub enters : (b : Book) (rank : ℕ) (n : Numbers) → Passes (entry_checks b rank n) → Enters b rank n
enters b rank n passes =
    let idle = first_passes (has_flaw Idle n) IdleRow 0 tt _ passes in
    let window = first_passes (has_flaw Cramped n) NoWindow 0 tt _ idle.1 in
    let late = first_passes (has_flaw Late n) LateDeadline 0 tt _ window.1 in
    let long = first_passes (has_flaw Long n) LongPeriod 0 tt _ late.1 in
    let off = first_passes (has_flaw (Off b.frame) n) OffFrame 0 tt _ long.1 in
    let full = first_passes (leb most_rows (length b.rows)) FullTable 0 tt _ off.1 in
    let rank_is = ranked (length b.rows + 1) rank full.1 in
    let work : n.work ≢ 0 = eqb-false n.work 0 idle.0 in
    let row : Row =
    record {
      work = n.work;
      deadline = n.deadline;
      period = n.period;
      jitter = n.jitter;
      busy = omega (arith, work);
      roomy = ltb-false n.deadline (n.work + n.jitter) window.0;
      timely = ltb-false n.period n.deadline late.0;
      near = ltb-false horizon n.period long.0;
    } in
    record {
      row = row;
      made = ap (λ o. cons_option o []) (row_of_plain row);
      on = not-false (is_on_frame b.frame.ticks row) off.0;
      room = leb-false most_rows (length b.rows) full.0;
      low = rank_is.0;
      high = rank_is.1;
    }
