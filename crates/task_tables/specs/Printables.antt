-- Texts as people see them.
use Rattle.std.specs.Prelude.{ℕ, List, map, if◌then◌else◌}
use Rattle.std.specs.Char.{is_ascii_control}

-- a character as it is seen: a question mark for a control character
abbrev pub printable_char : ℕ → ℕ
printable_char c = if is_ascii_control c then 63 else c

-- a text as it is seen; a control character is one byte, which is no byte of another character
abbrev pub printable_text : List ℕ → List ℕ
printable_text text = map printable_char text
