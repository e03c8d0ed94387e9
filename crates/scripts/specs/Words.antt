-- The words of a line.
use Rattle.std.specs.Prelude.{ℕ, List, length, nat_lt, filter}
use Rattle.std.specs.List.{slice_split}
use Rattle.numerals.specs.Numerals.{is_blank}

-- the words of a line: what stands between blanks and tabs, where anything does
abbrev pub words_of : List ℕ → List (List ℕ)
words_of line = filter (λ word. nat_lt 0 (length word)) (slice_split is_blank line)
