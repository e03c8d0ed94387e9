-- A row is known by its four numbers.
use Rattle.std.proofs.Common.{◌≡◌, ◌+◌, ◌≤◌, List, [], ◌∷◌, map, Some, refl, ◌∙◌, ap₂}
use mathlib.Core.HLevel.{is_prop→PathP}
use Rattle.std.proofs.Math.Logic.{dif_pos}
use Rattle.std.proofs.Math.Decide.{dec_le}
use Rattle.std.proofs.Math.Bridge.{le_prop}
use Rattle.std.specs.List.{cons_option}
use Rattle.rows.specs.declared.tasks.Row.{Row}
use Rattle.rows.specs.Times.{horizon}
use Rattle.rows.specs.Judging.{plain, row_of, rows_of}

-- rows with the same numbers are the same row
pub same_row : (r s : Row) → plain r ≡ plain s → r ≡ s
same_row r s same =
    λ i. record {
      work = (same i).work;
      deadline = (same i).deadline;
      period = (same i).period;
      jitter = (same i).jitter;
      busy = is_prop→PathP (λ j. 1 ≤ (same j).work) (λ j. le_prop) r.busy s.busy i;
      roomy = is_prop→PathP (λ j. (same j).work + (same j).jitter ≤ (same j).deadline) (λ j. le_prop) r.roomy s.roomy i;
      timely = is_prop→PathP (λ j. (same j).deadline ≤ (same j).period) (λ j. le_prop) r.timely s.timely i;
      near = is_prop→PathP (λ j. (same j).period ≤ horizon) (λ j. le_prop) r.near s.near i;
    }

-- lists of rows with the same numbers are the same
pub same_rows : (rs ss : List Row) → map plain rs ≡ map plain ss → rs ≡ ss
same_rows [] [] same = refl
same_rows [] (s ∷ ss) same = cc
same_rows (r ∷ rs) [] same = cc
same_rows (r ∷ rs) (s ∷ ss) same =
    let first : plain r ≡ plain s = cc in
    let rest : map plain rs ≡ map plain ss = cc in
    ap₂ ◌∷◌ (same_row r s first) (same_rows rs ss rest)

-- the row of a row's numbers is that row
pub row_of_plain : (r : Row) → row_of (plain r) ≡ Some r
unfolding row_of
row_of_plain r =
    dif_pos (dec_le 1 r.work) le_prop r.busy _ _
    ∙ dif_pos (dec_le (r.work + r.jitter) r.deadline) le_prop r.roomy _ _
    ∙ dif_pos (dec_le r.deadline r.period) le_prop r.timely _ _
    ∙ dif_pos (dec_le r.period horizon) le_prop r.near _ _

-- the rows of the numbers of rows are those rows
pub rows_of_plain : (rs : List Row) → rows_of (map plain rs) ≡ rs
rows_of_plain [] = refl
rows_of_plain (r ∷ rs) = ap₂ cons_option (row_of_plain r) (rows_of_plain rs)
