-- Bytes played with no more of a line kept than decides, and whole lines.
use Rattle.std.proofs.Common.{◌≡◌, ℕ, ◌-◌, ◌≤◌, ◌==◌, Bool, true, false, List, [], ◌∷◌, ◌++◌, length, take, map}
use Rattle.std.proofs.Common.{slice_index, cond, inl, inr, refl, sym, ap, ◌∙◌, arith, append-nil, append_assoc}
use Rattle.std.proofs.lemmas.Bool.{cases_lt}
use Rattle.std.proofs.lemmas.List.{take_all, take-take, take-append-le, length-take-le, map-append}
use Rattle.scripts.specs.Buffers.{room}
use Rattle.scripts.specs.Lines.{line_of}
use Rattle.scripts.specs.PlayState.{PlayState, first_progress, after_bytes, written_for_bytes, written_last, once_ended}
use Rattle.scripts.specs.PlayState.{written_at_end}
use Rattle.scripts.specs.Scripts.{line_feed, carriage_return, without_return, begun_after, ended_lines, last_line}
use Rattle.scripts.specs.Sessions.{Stage, first_stage, stage_behind, written_for, output_from, heard, is_named}
use Rattle.scripts.specs.Sessions.{reaction_text, next_number}
use Rattle.scripts.specs.Runs.{script_output, ended_output}
use Rattle.scripts.proofs.Clipping.{line_of_clipped}

-- the first bytes of a long line are the same without its return
first_bytes : (xs : List ℕ) → 130 ≤ length xs → take 129 (without_return xs) ≡ take 129 xs
unfolding without_return
first_bytes xs long = by_case (slice_index xs (length xs - 1) == carriage_return)
  where
    by_case : (v : Bool) → take 129 (cond v (take (length xs - 1) xs) xs) ≡ take 129 xs
    by_case true = take-take 129 (length xs - 1) xs (omega arith)
    by_case false = refl

same_first : (xs : List ℕ) → take 129 (without_return (take room xs)) ≡ take 129 (without_return xs)
same_first xs = elim (cases_lt 130 (length xs)) [
  | inl h ↦ (let len : length (take room xs) ≡ 130 = length-take-le room xs (omega arith) in
      first_bytes (take room xs) (omega (arith, len)) ∙ take-take 129 room xs (omega arith)
      ∙ sym (first_bytes xs (omega arith)))
  | inr h ↦ ap (λ x. take 129 (without_return x)) (take_all room xs h)
]

-- a line means what its first bytes do
pub same_line : (n : Bool) (xs : List ℕ) → line_of n (without_return (take room xs)) ≡ line_of n (without_return xs)
same_line n xs =
    sym (line_of_clipped n (without_return (take room xs))) ∙ ap (line_of n) (same_first xs)
    ∙ line_of_clipped n (without_return xs)

same_written : (s : Stage) (xs : List ℕ)
    → written_for s (without_return (take room xs)) ≡ written_for s (without_return xs)
same_written s xs = ap (λ l. reaction_text (next_number s.number) (heard s.state l).1) (same_line (is_named s.state) xs)

same_stage : (s : Stage) (xs : List ℕ)
    → stage_behind s (without_return (take room xs)) ≡ stage_behind s (without_return xs)
same_stage s xs =
    ap (λ l. record { number = next_number s.number; state = (heard s.state l).0 }) (same_line (is_named s.state) xs)

-- one byte more, clipped
clipped_more : (xs : List ℕ) (b : ℕ) → take room (take room xs ++ b ∷ []) ≡ take room (xs ++ b ∷ [])
clipped_more xs b = elim (cases_lt (length xs) 130) [
  | inl h ↦ ap (λ x. take room (x ++ b ∷ [])) (take_all room xs (omega arith))
  | inr h ↦ (let len : length (take room xs) ≡ 130 = length-take-le room xs h in
      take-append-le room (take room xs) (b ∷ []) (omega (arith, len))
      ∙ take_all room (take room xs) (omega (arith, len)) ∙ sym (take-append-le room xs (b ∷ []) h))
]

-- the progress of a stage and a line that has begun
abbrev pub at_line : Stage → List ℕ → PlayState
at_line s begun = record { stage = s; line = take room begun }

-- the stage behind some lines
abbrev pub stage_after : Stage → List (List ℕ) → Stage
stage_after s [] = s
stage_after s (line ∷ lines) = stage_after (stage_behind s line) lines

pub output-append : (s : Stage) (xs ys : List (List ℕ))
    → output_from s (xs ++ ys) ≡ output_from s xs ++ output_from (stage_after s xs) ys
output-append s [] ys = refl
output-append s (x ∷ xs) ys =
    ap (λ t. written_for s x ++ t) (output-append (stage_behind s x) xs ys) ∙ sym (append_assoc (written_for s x) _ _)

-- bytes are answered as the lines are that they end
pub same_output : (bytes begun : List ℕ) (s : Stage)
    → written_for_bytes (at_line s begun) bytes ≡ output_from s (map without_return (ended_lines begun bytes))
same_output [] begun s = refl
same_output (b ∷ bytes) begun s = by_case (same_output bytes) (b == line_feed)
  where
    by_case : ((x : List ℕ) (t : Stage)
        → written_for_bytes (at_line t x) bytes ≡ output_from t (map without_return (ended_lines x bytes)))
        → (v : Bool) → cond v (written_at_end (at_line s begun)) []
        ++ written_for_bytes
        (cond v (once_ended (at_line s begun)) (record { stage = s; line = take room (take room begun ++ b ∷ []) }))
        bytes
        ≡ output_from s (map without_return (cond v (begun ∷ []) [] ++ ended_lines (cond v [] (begun ++ b ∷ [])) bytes))
    by_case before true =
        ap (λ x. written_for s (without_return (take room begun))
        ++ written_for_bytes (record { stage = x; line = [] }) bytes) (same_stage s begun)
        ∙ ap (λ x. x ++ written_for_bytes (record { stage = stage_behind s (without_return begun); line = [] }) bytes)
        (same_written s begun)
        ∙ ap (λ x. written_for s (without_return begun) ++ x) (before [] (stage_behind s (without_return begun)))
    by_case before false =
        ap (λ x. written_for_bytes (record { stage = s; line = x }) bytes) (clipped_more begun b)
        ∙ before (begun ++ b ∷ []) s

-- bytes come to the stage to which the lines come that they end
pub same_progress : (bytes begun : List ℕ) (s : Stage)
    → after_bytes (at_line s begun) bytes
    ≡ at_line (stage_after s (map without_return (ended_lines begun bytes))) (begun_after begun bytes)
same_progress [] begun s = refl
same_progress (b ∷ bytes) begun s = by_case (same_progress bytes) (b == line_feed)
  where
    by_case : ((x : List ℕ) (t : Stage)
        → after_bytes (at_line t x) bytes
        ≡ at_line (stage_after t (map without_return (ended_lines x bytes))) (begun_after x bytes))
        → (v : Bool) → after_bytes
        (cond v (once_ended (at_line s begun)) (record { stage = s; line = take room (take room begun ++ b ∷ []) }))
        bytes
        ≡ at_line (stage_after s
        (map without_return (cond v (begun ∷ []) [] ++ ended_lines (cond v [] (begun ++ b ∷ [])) bytes)))
        (begun_after (cond v [] (begun ++ b ∷ [])) bytes)
    by_case before true =
        ap (λ x. after_bytes (record { stage = x; line = [] }) bytes) (same_stage s begun)
        ∙ before [] (stage_behind s (without_return begun))
    by_case before false =
        ap (λ x. after_bytes (record { stage = s; line = x }) bytes) (clipped_more begun b) ∙ before (begun ++ b ∷ []) s

-- the line that the end of the input ends is answered as it stands
pub same_last : (begun : List ℕ) (s : Stage)
    → written_last (at_line s begun) ≡ output_from s (map without_return (last_line begun))
same_last [] s = refl
same_last (b ∷ begun) s = same_written s (b ∷ begun) ∙ sym (append-nil (written_for s (without_return (b ∷ begun))))

-- what is written for bytes, from the first on
pub first_output : (bytes : List ℕ) → written_for_bytes first_progress bytes ≡ ended_output bytes
unfolding ended_output
first_output bytes = same_output bytes [] first_stage

-- what is written for all of a script
pub whole_output : (bytes : List ℕ)
    → script_output bytes ≡ written_for_bytes first_progress bytes ++ written_last (after_bytes first_progress bytes)
unfolding script_output
whole_output bytes =
    let ended = ended_lines [] bytes in
    let last = last_line (begun_after [] bytes) in
    let lines = map without_return ended in
    ap (output_from first_stage) (map-append without_return ended last)
    ∙ output-append first_stage lines (map without_return last)
    ∙ ap (λ x. x ++ output_from (stage_after first_stage lines) (map without_return last))
    (sym (same_output bytes [] first_stage))
    ∙ ap (λ x. written_for_bytes first_progress bytes ++ x)
    (sym (same_last (begun_after [] bytes) (stage_after first_stage lines)))
    ∙ ap (λ x. written_for_bytes first_progress bytes ++ written_last x) (sym (same_progress bytes [] first_stage))
