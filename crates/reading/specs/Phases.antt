-- The phases of a reader.
use Rattle.std.specs.Prelude.{ℕ, ◌≤◌, Bool, true, false, ◌||◌, ◌==◌}
use Rattle.rows.specs.declared.frames.FrameNumbers.{FrameNumbers}
use Rattle.rows.specs.Frames.{frame_of}
use Rattle.rows.specs.Times.{most_rows}
use Rattle.leaves.specs.Entries.{letter_F, letter_R, letter_A, letter_Z, row_place, finding_place, leaf_length}
use Rattle.reading.specs.declared.phases.Phase.{Phase}
use Rattle.reading.specs.declared.phases.Phase.TheVariants.{Opening, Rows, Findings, Closed}

-- how many rows have come
abbrev pub rows_in : Phase → ℕ
rows_in Opening = 0
rows_in (Rows h n) = n
rows_in (Findings h n m) = n
rows_in (Closed h n) = n

-- how many findings have come
abbrev pub findings_in : Phase → ℕ
findings_in Opening = 0
findings_in (Rows h n) = 0
findings_in (Findings h n m) = m
findings_in (Closed h n) = n

-- the frame that the heading told
abbrev pub frame_in : Phase → FrameNumbers
frame_in Opening = frame_of 0
frame_in (Rows h n) = h.frame
frame_in (Findings h n m) = h.frame
frame_in (Closed h n) = h.frame

-- the end has come
abbrev pub is_closed : Phase → Bool
is_closed Opening = false
is_closed (Rows h n) = false
is_closed (Findings h n m) = false
is_closed (Closed h n) = true

-- a kind of entry belongs in a phase
abbrev pub is_in_turn : Phase → ℕ → Bool
is_in_turn Opening k = k == letter_F
is_in_turn (Rows h n) k = k == letter_R || (k == letter_A || k == letter_Z)
is_in_turn (Findings h n m) k = k == letter_A || k == letter_Z
is_in_turn (Closed h n) k = false

-- the place at which the next entry begins
abbrev pub place_of : Phase → ℕ
place_of Opening = 0
place_of (Rows h n) = row_place n
place_of (Findings h n m) = finding_place n m
place_of (Closed h n) = leaf_length n

-- as many rows and findings as a phase tells can have come
pub record IsSound (p : Phase) : Type 0 where
  pub few : rows_in p ≤ most_rows
  pub orderly : findings_in p ≤ rows_in p
