-- What is kept of the rows of a table, one row more at a time.
use Rattle.std.proofs.Common.{◌≡◌, ◌≢◌, ℕ, ◌+◌, ◌<◌, ◌≤◌, Bool, true, false, List, [], ◌∷◌, ◌++◌, get_or}
use Rattle.std.proofs.Common.{slice_index_or, set, length, map, take, take_all, replicate, ◌||◌, sym, refl, ap, ap₂}
use Rattle.std.proofs.Common.{◌∙◌, inl, inr, ⊎_elim, arith}
use Rattle.std.proofs.lemmas.Bool.{cases_order}
use Rattle.std.proofs.lemmas.Grind.{get_or-set_at, take_at_read}
use Rattle.std.proofs.lemmas.List.{get_or-map, get_or-replicate, get_or-set_other, get_or-take, get_or_default}
use Rattle.std.proofs.lemmas.List.{length-map, length-replicate, length-set, length-take-le, map-append, take-set-le}
use Rattle.rows.specs.declared.tasks.Row.{Row}
use Rattle.rows.specs.Times.{horizon, most_rows}
use Rattle.bounds.specs.declared.questions.OnFrame.{OnFrame}
use Rattle.bounds.specs.Instants.{count}
use Rattle.bounds.specs.Marks.{Marks}
use Rattle.bounds.specs.Meaning.{Meaning}
use Rattle.bounds.specs.Questions.{frame_under, row_on}
use Rattle.findings.specs.Counting.{near, next_after, LookAhead, is_corner_above, set_flags}
use Rattle.findings.specs.Demand.{Load}
use Rattle.findings.specs.Points.{is_bend}
use Rattle.findings.specs.Prepared.{StandInTurn}
use Rattle.findings.proofs.Blocks.{next_ahead}
use Rattle.findings.proofs.SetFlags.{flags_count}

-- rows that stand in turn on a frame, and one row more
pub stand_more : (h : ℕ) (rows : List Row) (xs : List OnFrame) (i : ℕ) (x : OnFrame) (d : Row)
    → StandInTurn h (take i rows) xs → i < length rows → i < length xs → frame_under x ≡ h → row_on x ≡ get_or rows i d
    → StandInTurn h (take (i + 1) rows) (set xs i x)
stand_more h rows xs i x d stand small room on is k s r low =
    let more : length (take (i + 1) rows) ≡ i + 1 = length-take-le (i + 1) rows (omega arith) in
    let within : k < i + 1 = omega (arith, more, low) in
    let told = get_or-take (i + 1) rows k r within in
    elim (cases_order k i) [
      | inl same ↦
          let here = get_or-set_at xs i k x s same room in (
            ap frame_under here ∙ on,
            ap row_on here ∙ is ∙ ap (λ n. get_or rows n d) (sym same) ∙ get_or_default rows k d r (omega (arith, same))
                ∙ sym told,
          )
      | inr other ↦
          let apart : k ≢ i = ⊎_elim (λ l. omega arith) (λ l. omega arith) other in
          let before : k < i = omega (arith, within, apart) in
          let there = get_or-set_other xs i k x s apart in
          let front : k < length (take i rows) = omega (arith, length-take-le i rows (omega arith)) in
          let old = stand k s r front in
          (ap frame_under there ∙ old.0, ap row_on there ∙ old.1 ∙ get_or-take i rows k r before ∙ sym told)
    ]

-- where no flag is set, all corners of no row are
pub clear_marks : (m : Meaning) → Marks (is_bend m []) 0 (replicate near false) (replicate near false)
clear_marks m = record { size = refl; each = λ k small. still (slice_index_or (replicate near false) k false) }
  where
    still : (x : Bool) → x ≡ (x || false)
    still true = refl
    still false = refl

-- a list that tells something of the first rows, and of one more once that is put in
pub put_next : (f : Row → ℕ) (rows : List Row) (xs : List ℕ) (i x : ℕ) (r : Row) → take i xs ≡ map f (take i rows)
    → i < length rows → i < length xs
    → x ≡ f (get_or rows i r) → take (i + 1) (set xs i x) ≡ map f (take (i + 1) rows)
put_next f rows xs i x r told small room is =
    (take_at_read (set xs i x) i x (omega (arith, length-set xs i x))).1
    ∙ ap₂ (λ a b. a ++ b ∷ []) (take-set-le i xs i x (omega arith) ∙ told)
    (get_or-set_at xs i i x x (omega arith) room ∙ is)
    ∙ sym (ap (map f) ((take_at_read rows i r small).1) ∙ map-append f (take i rows) (get_or rows i r ∷ []))

-- a list with a place has something there
pub there : (rows : List Row) (k : ℕ) → k < length rows → Row
there [] k small = absurd (omega arith)
there (r ∷ rows) k small = r

-- what is told of each row
pub told_at : (m : Meaning) (t : ℕ) (rows : List Row) (xs : List ℕ) → xs ≡ map (next_after m t) rows
    → (k : ℕ) (r : Row) → k < length rows
    → get_or xs k 0 ≡ next_after m t (get_or rows k r)
told_at m t rows xs is k r small = ap (λ l. get_or l k 0) is ∙ get_or-map (next_after m t) rows k r 0 small

-- what is told of each row past an instant looks ahead from there
pub told_ahead : (l : Load) (t : ℕ) (xs : List ℕ) → t ≤ horizon → xs ≡ map (next_after l.bound t) l.above
    → LookAhead l t xs
told_ahead l t xs low is = record {
  size = ap length is ∙ length-map l.above (next_after l.bound t);
  each = λ k small. (
    (next_ahead l.bound _ t _ low (told_at l.bound t l.above xs is k (there l.above k small) small)).0,
    λ r u from to. (next_ahead l.bound _ t _ low (told_at l.bound t l.above xs is k r small)).1 u from to,
  );
}

-- where nothing is known of what is ahead, the next instant is looked ahead to
pub anew_ahead : (l : Load) (t : ℕ) → length l.above ≤ most_rows
    → LookAhead l t (take (length l.above) (replicate most_rows (t + 1)))
anew_ahead l t few = record {
  size = length-take-le (length l.above) (replicate most_rows (t + 1)) few;
  each = λ k small.
      let next : slice_index_or (take (length l.above) (replicate most_rows (t + 1))) k 0 ≡ t + 1 =
      get_or-take (length l.above) (replicate most_rows (t + 1)) k 0 small
      ∙ get_or-replicate most_rows k (t + 1) 0 (omega arith) in
      (omega (arith, next), λ r u low high. absurd (omega (arith, next)));
}

-- the flags of the first near instants count the corners up to there
pub near_count : (l : Load) (flags : List Bool) (end : ℕ) → Marks (is_corner_above l) 0 (replicate near false) flags
    → end ≤ near → set_flags (take end flags) ≡ count (is_corner_above l) end
unfolding count
near_count l flags end marks within =
    let size : length (take end flags) ≡ end =
    length-take-le end flags (omega (arith, marks.size, length-replicate near false)) in
    let all = flags_count (is_corner_above l) (take end flags) 0 (λ k small.
    let place : k < length (replicate near false) = omega (arith, size, length-replicate near false) in
    get_or-take end flags k false (omega (arith, size)) ∙ marks.each k place
    ∙ ap (λ b. b || is_corner_above l (0 + 1 + k)) (get_or-replicate near k false false (omega (arith, size)))) in
    let reach : 0 + length (take end flags) ≡ end = omega (arith, size) in
    let start : count (is_corner_above l) 0 ≡ 0 = refl in
    omega (arith, all, ap (count (is_corner_above l)) reach, start)

-- all flags count the corners up to the near instant
pub near_count_all : (l : Load) (flags : List Bool) → Marks (is_corner_above l) 0 (replicate near false) flags
    → set_flags flags ≡ count (is_corner_above l) near
near_count_all l flags marks =
    let whole : take near flags ≡ flags = take_all near flags
    (omega (arith, marks.size, length-replicate near false)) in
    ap set_flags (sym whole) ∙ near_count l flags near marks (omega arith)
