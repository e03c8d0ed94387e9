-- The worked table is right.
use Rattle.std.proofs.Common.{◌≡◌, ℕ, zero, suc, ◌+◌, ◌<◌, ◌≤◌, Bool, true, false, cond, not, ◌&&◌, ◌||◌, eqb, sym}
use Rattle.std.proofs.Common.{refl, ◌∙◌, subst, ⊎_elim, arith}
use Rattle.std.proofs.lemmas.Bool.{and_parts, and_right, cases_lt, cases_order, lt-leb, ne_eqb, or_from}
use Rattle.rows.specs.Counting.{is_rise}
use Rattle.bounds.specs.Instants.{least, count}
use Rattle.bounds.specs.Stairs.{greatest_power}
use Rattle.bounds.specs.Supplied.{linear_tail, staircase}
use Rattle.bounds.specs.Tails.{is_exact}
use Rattle.findings.specs.Findings.{first_rest, stop, points}
use Rattle.brackets.specs.Speeds.{rest_at_speed}
use Rattle.worked.specs.Table.{Worked, row_a, row_b}
use Rattle.worked.proofs.Calls.{calls_come}

-- two tests agree on the numbers below n
abbrev agree : (ℕ → Bool) → (ℕ → Bool) → ℕ → Bool
agree p q zero = true
agree p q (suc n) = cond (p n) (q n) (not (q n)) && agree p q n

agrees : (p q : ℕ → Bool) (n t : ℕ) → agree p q n ≡ true → t < n → p t ≡ q t
agrees p q zero t all below = absurd (omega arith)
agrees p q (suc n) t all below =
    let parts = and_parts (cond (p n) (q n) (not (q n))) (agree p q n) all in
    ⊎_elim (λ (last : t ≡ n). subst (λ k. p k ≡ q k) (sym last) (same (p n) (q n) parts.0))
    (λ o. agrees p q n t parts.1 (⊎_elim (λ l. l) (λ l. absurd (omega arith)) o))
    (cases_order t n)
  where
    same : (a b : Bool) → cond a b (not b) ≡ true → a ≡ b
    same true b e = sym e
    same false true e = e
    same false false e = refl

corners_of_b : (t : ℕ) → (linear_tail 3).is_corner row_b t ≡ (eqb t 5 || eqb t 11)
corners_of_b t =
    ⊎_elim (λ (early : t < 12). agrees ((linear_tail 3).is_corner row_b) (λ k. eqb k 5 || eqb k 11) 12 t refl early)
    (λ (late : 12 ≤ t).
    and_right (is_rise row_b t) (is_exact 2 row_b t) (lt-leb (t + 1) 12 (omega arith))
    ∙ sym (or_from (eqb t 5) (eqb t 11) (ne_eqb t 5 (λ e. omega arith)) (ne_eqb t 11 (λ e. omega arith))))
    (cases_lt t 12)

-- the instants that are told for the corners of A
abbrev told_of_a : ℕ → Bool
told_of_a t = eqb t 4 || eqb t 8 || eqb t 12 || eqb t 16 || eqb t 24 || eqb t 32

stair_corners_of_a : (t : ℕ) → t ≤ 40 → (staircase 2).is_corner row_a t ≡ told_of_a t
unfolding greatest_power
stair_corners_of_a t near = agrees ((staircase 2).is_corner row_a) told_of_a 41 t refl (omega arith)

pub worked : Worked
unfolding least count first_rest stop points rest_at_speed greatest_power
worked = record {
  exact_a = refl;
  exact_b = refl;
  exact_e = refl;
  tail_1_b = refl;
  tail_1_e = refl;
  tail_2_e = refl;
  tail_3_e = refl;
  table_exact = refl;
  table_tail_3 = refl;
  slow_b = refl;
  slow_e = refl;
  steps_at_5 = refl;
  steps_at_6 = refl;
  parts_at_5 = refl;
  parts_at_6 = refl;
  corners = corners_of_b;
  stairs_1_b = refl;
  stairs_1_e = refl;
  stairs_2_e = refl;
  table_stairs_1 = refl;
  jobs_counted = refl;
  stair_corners = stair_corners_of_a;
  stair_parts_at_9 = refl;
  table_g_first = refl;
  table_g_between = refl;
  bench_answers = calls_come.answered;
  bench_book = calls_come.books;
}
