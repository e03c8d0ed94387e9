-- Fields: their text without blanks around it.
use Rattle.std.specs.Prelude.{ℕ, ◌-◌, List, length, take, drop}
use Rattle.std.specs.List.{prefix_len, suffix_len}
use Rattle.numerals.specs.Numerals.{is_blank}

-- a field without blanks and tabs in front
abbrev pub without_front : List ℕ → List ℕ
without_front field = drop (prefix_len is_blank field) field

-- a field without those at its end
abbrev pub without_end : List ℕ → List ℕ
without_end field = take (length field - suffix_len is_blank field) field

-- a field without those around it
unfoldable pub trimmed : List ℕ → List ℕ
trimmed field = without_end (without_front field)
