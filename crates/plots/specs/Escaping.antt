-- How a character is written as text of XML.
use Rattle.std.specs.Prelude.{◌≡◌, ℕ, Bool, false, ◌||◌, ◌==◌, List, codes, encode_utf8, if◌then◌else◌}
use Rattle.std.specs.Char.{is_control}

-- a character has a meaning in XML: it is &, <, > or "
abbrev pub is_marked : ℕ → Bool
is_marked c = c == 38 || (c == 60 || (c == 62 || c == 34))

-- a character may not stand in XML: it is a control character, or one of two that are none
abbrev pub is_barred : ℕ → Bool
is_barred c = c == 65534 || (c == 65535 || is_control c)

-- a character stands for itself
abbrev pub IsPlain : ℕ → Type 0
IsPlain c = (is_marked c || is_barred c) ≡ false

-- what stands for a character that does not stand for itself
abbrev pub stand_in : ℕ → List ℕ
stand_in c =
    if c == 38 then codes "&amp;" else
    if c == 60 then codes "&lt;" else
    if c == 62 then codes "&gt;" else
    if c == 34 then codes "&quot;" else
    codes "?"

-- a character as text of XML
abbrev pub escaped : ℕ → List ℕ
escaped c = if is_marked c || is_barred c then stand_in c else encode_utf8 c
