-- Blanks, digits and the numbers that words are.
use Rattle.std.specs.Prelude.{ℕ, ◌^◌, Bool, ◌&&◌, ◌||◌, List, length, Option, Some, None, ◌==◌, nat_lt, if◌then◌else◌}
use Rattle.std.specs.Str.{all_ascii_digits}
use Rattle.std.specs.Str.Parse.{digits_value}

-- a blank or a tab
abbrev pub is_blank : ℕ → Bool
is_blank b = (b == 32) || (b == 9)

-- a word is one or more decimal digits
abbrev pub is_digits : List ℕ → Bool
is_digits word = nat_lt 0 (length word) && all_ascii_digits word

-- a word is a number: such digits that write one below 2 ^ 32
abbrev pub is_number : List ℕ → Bool
is_number word = is_digits word && nat_lt (digits_value 10 word) (2 ^ 32)

-- the number that a word is, if it is one
abbrev pub number_of : List ℕ → Option ℕ
number_of word = if is_number word then Some (digits_value 10 word) else None
