-- The worked table: three rows on a frame of 12, and what is found about them and told by a bench, counted by hand.
use Rattle.std.specs.Prelude.{◌≡◌, ℕ, ◌≤◌, ◌||◌, List, [], ◌∷◌, Some, None, ◌==◌, map}
use Rattle.std.proofs.Common.{lit≤}
use Rattle.rows.specs.declared.refusals.Refusal.TheVariants.{Overload, NewcomerOverload}
use Rattle.rows.specs.declared.tasks.Row.{Row}
use Rattle.rows.specs.Answers.{gives, refuses}
use Rattle.rows.specs.Books.{book}
use Rattle.rows.specs.Counting.{steps}
use Rattle.rows.specs.Frames.{frame_of}
use Rattle.rows.specs.Judging.{plain}
use Rattle.bounds.specs.Meaning.{Meaning}
use Rattle.bounds.specs.Stairs.{rounded}
use Rattle.bounds.specs.Supplied.{exact_steps, linear_tail, staircase}
use Rattle.rows.specs.Found.{Found}
use Rattle.findings.specs.Findings.{row_finding}
use Rattle.findings.specs.Tables.{findings_of}
use Rattle.brackets.specs.Bracketing.{slow_rest}
use Rattle.admission.specs.declared.calls.Call.{Call}
use Rattle.admission.specs.declared.calls.Call.TheVariants.{Frame, Admit, Dismiss, Inquire}
use Rattle.admission.specs.Replies.{done, row_found}
use Rattle.admission.specs.Runs.{book_after, answers_to}

-- the rows, by work, deadline, period and jitter
abbrev pub row_a : Row
row_a = record {
  work = 1;
  deadline = 4;
  period = 4;
  jitter = 0;
  busy = lit≤ tt;
  roomy = lit≤ tt;
  timely = lit≤ tt;
  near = lit≤ tt;
}

-- task B
abbrev pub row_b : Row
row_b = record {
  work = 2;
  deadline = 6;
  period = 6;
  jitter = 1;
  busy = lit≤ tt;
  roomy = lit≤ tt;
  timely = lit≤ tt;
  near = lit≤ tt;
}

-- task E
abbrev pub row_e : Row
row_e = record {
  work = 3;
  deadline = 12;
  period = 12;
  jitter = 0;
  busy = lit≤ tt;
  roomy = lit≤ tt;
  timely = lit≤ tt;
  near = lit≤ tt;
}

-- task G
abbrev pub row_g : Row
row_g = record {
  work = 5;
  deadline = 6;
  period = 6;
  jitter = 0;
  busy = lit≤ tt;
  roomy = lit≤ tt;
  timely = lit≤ tt;
  near = lit≤ tt;
}

-- the finding about a row below others on the frame of 12
abbrev pub found : Meaning → Row → List Row → Found
found m r above = row_finding m (frame_of 12) r above

-- a first rest with the points tested
abbrev pub meets : ℕ → ℕ → Found
meets rest points = record { rest = Some rest; points = points }

-- a miss with the points tested
abbrev pub misses : ℕ → Found
misses points = record { rest = None; points = points }

-- calls to a bench: the frame, A and B in ranks 1 and 2, E below them; then A leaves, E comes below B, and is asked for;
-- then G above both, and between them
abbrev pub worked_calls : List Call
worked_calls =
    Frame (frame_of 12)
    ∷ Admit 1 (plain row_a)
    ∷ Admit 2 (plain row_b)
    ∷ Admit 3 (plain row_e)
    ∷ Dismiss 1
    ∷ Admit 2 (plain row_e)
    ∷ Inquire 2
    ∷ Admit 1 (plain row_g)
    ∷ Admit 2 (plain row_g)
    ∷ []

-- what was counted by hand
pub record Worked : Type 0 where
  pub exact_a : found exact_steps row_a [] ≡ meets 1 1
  pub exact_b : found exact_steps row_b (row_a ∷ []) ≡ meets 3 1
  pub exact_e : found exact_steps row_e (row_a ∷ row_b ∷ []) ≡ meets 10 4
  pub tail_1_b : found (linear_tail 1) row_b (row_a ∷ []) ≡ meets 4 1
  pub tail_1_e : found (linear_tail 1) row_e (row_a ∷ row_b ∷ []) ≡ misses 1
  pub tail_2_e : found (linear_tail 2) row_e (row_a ∷ row_b ∷ []) ≡ misses 3
  pub tail_3_e : found (linear_tail 3) row_e (row_a ∷ row_b ∷ []) ≡ meets 11 4
  -- the whole table, in exact steps and by the tail of accuracy 3
  pub table_exact : findings_of exact_steps (frame_of 12) (row_a ∷ row_b ∷ row_e ∷ [])
      ≡ meets 1 1 ∷ meets 3 1 ∷ meets 10 4 ∷ []
  pub table_tail_3 : findings_of (linear_tail 3) (frame_of 12) (row_a ∷ row_b ∷ row_e ∷ [])
      ≡ meets 1 1 ∷ meets 3 1 ∷ meets 11 4 ∷ []
  -- in exact steps at speed 3/4
  pub slow_b : slow_rest 3 row_b (row_a ∷ []) ≡ Some 4
  pub slow_e : slow_rest 3 row_e (row_a ∷ row_b ∷ []) ≡ None
  -- the steps of B at 5 and at 6, and its amounts under the tail of accuracy 2
  pub steps_at_5 : steps row_b 5 ≡ 2
  pub steps_at_6 : steps row_b 6 ≡ 4
  pub parts_at_5 : (linear_tail 2).amount 12 row_b 5 ≡ 24
  pub parts_at_6 : (linear_tail 2).amount 12 row_b 6 ≡ 52
  -- the corners of B under the tail of accuracy 3 are 5 and 11
  pub corners : (t : ℕ) → (linear_tail 3).is_corner row_b t ≡ (t == 5 || t == 11)
  -- by the staircases of accuracy 1 and 2: B, E, and the whole table
  pub stairs_1_b : found (staircase 1) row_b (row_a ∷ []) ≡ meets 3 1
  pub stairs_1_e : found (staircase 1) row_e (row_a ∷ row_b ∷ []) ≡ meets 11 4
  pub stairs_2_e : found (staircase 2) row_e (row_a ∷ row_b ∷ []) ≡ meets 10 4
  pub table_stairs_1 : findings_of (staircase 1) (frame_of 12) (row_a ∷ row_b ∷ row_e ∷ [])
      ≡ meets 1 1 ∷ meets 3 1 ∷ meets 11 4 ∷ []
  -- how many jobs the staircase of accuracy 2 counts for 1 to 9 jobs, and the corners of A by it up to 40
  pub jobs_counted : map (rounded 2) (1 ∷ 2 ∷ 3 ∷ 4 ∷ 5 ∷ 6 ∷ 7 ∷ 8 ∷ 9 ∷ [])
      ≡ 1 ∷ 2 ∷ 3 ∷ 4 ∷ 6 ∷ 6 ∷ 8 ∷ 8 ∷ 12 ∷ []
  pub stair_corners : (t : ℕ) → t ≤ 40
      → (staircase 2).is_corner row_a t ≡ (t == 4 || t == 8 || t == 12 || t == 16 || t == 24 || t == 32)
  -- the amount of A by the staircase of accuracy 1 at 9, where three jobs count as four
  pub stair_parts_at_9 : (staircase 1).amount 12 row_a 9 ≡ 48
  -- with G above B and E, it meets and both of them miss; with G between them, it misses itself, and E does
  pub table_g_first : findings_of (linear_tail 2) (frame_of 12) (row_g ∷ row_b ∷ row_e ∷ [])
      ≡ meets 5 1 ∷ misses 1 ∷ misses 3 ∷ []
  pub table_g_between : findings_of (linear_tail 2) (frame_of 12) (row_b ∷ row_g ∷ row_e ∷ [])
      ≡ meets 2 1 ∷ misses 2 ∷ misses 3 ∷ []
  -- a bench by the tail of accuracy 2 refuses E below A and B, where E is the one that misses, and admits it once A has
  -- left; it refuses G for B, and then for itself: its answers, and its book
  pub bench_answers : answers_to (linear_tail 2) worked_calls
      ≡ gives done
      ∷ gives done
      ∷ gives done
      ∷ refuses NewcomerOverload 3
      ∷ gives done
      ∷ gives done
      ∷ gives (row_found (plain row_e) (meets 5 1))
      ∷ refuses Overload 2
      ∷ refuses NewcomerOverload 2
      ∷ []
  pub bench_book : book_after (linear_tail 2) worked_calls ≡ book (frame_of 12) (row_b ∷ row_e ∷ [])
