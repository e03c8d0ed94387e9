-- Numbers in four bytes.
use Rattle.std.specs.Prelude.{ℕ, ◌+◌, ◌-◌, List, [], ◌∷◌, slice_index, take, length, nat_lt}
use Rattle.std.specs.Int.{w32, to_be_bytes, from_be_bytes}
use Rattle.rows.specs.declared.refusals.Refusal.TheVariants.{CutLeaf}
use Rattle.rows.specs.Answers.{Answer, Check, check, checked}

-- the four bytes of a number, the most significant first
abbrev pub four : ℕ → List ℕ
four n = to_be_bytes w32 n

-- the number in the four bytes from place i on
abbrev pub number_at : ℕ → List ℕ → ℕ
number_at i bytes =
    from_be_bytes w32
    (slice_index bytes i ∷ slice_index bytes (i + 1) ∷ slice_index bytes (i + 2) ∷ slice_index bytes (i + 3) ∷ [])

-- what is checked of bytes that are to end in a number: cut leaf, where there are fewer than four
abbrev pub last_checks : List ℕ → List Check
last_checks bytes = check (nat_lt (length bytes) 4) CutLeaf 0 ∷ []

-- what bytes are answered that are read from the end: the number in the last four, and the bytes before them
abbrev pub last_number : List ℕ → Answer (ℕ × List ℕ)
last_number bytes =
    checked (last_checks bytes) (number_at (length bytes - 4) bytes, take (length bytes - 4) bytes)
