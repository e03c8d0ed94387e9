-- A script: bytes, and the lines that they are.
use Rattle.std.specs.Prelude.{ℕ, ◌-◌, ◌==◌, List, [], ◌∷◌, ◌++◌, map, length, take, slice_index, if◌then◌else◌}

-- the byte that ends a line
abbrev pub line_feed : ℕ
line_feed = 10

-- the byte that is dropped where it stands just before the end of a line
abbrev pub carriage_return : ℕ
carriage_return = 13

-- a line without one carriage return at its end
unfoldable pub without_return : List ℕ → List ℕ
without_return line =
    if slice_index line (length line - 1) == carriage_return then take (length line - 1) line else line

-- what has begun of a line after one byte more
abbrev pub grown : List ℕ → ℕ → List ℕ
grown begun b = if b == line_feed then [] else begun ++ b ∷ []

-- the line that one byte more ends, if it does
abbrev pub closed : List ℕ → ℕ → List (List ℕ)
closed begun b = if b == line_feed then begun ∷ [] else []

-- what has begun of a line behind the last line feed of some bytes, with what had begun before them
abbrev pub begun_after : List ℕ → List ℕ → List ℕ
begun_after begun [] = begun
begun_after begun (b ∷ bytes) = begun_after (grown begun b) bytes

-- the lines that the line feeds of some bytes end, the first with what had begun before them
abbrev pub ended_lines : List ℕ → List ℕ → List (List ℕ)
ended_lines begun [] = []
ended_lines begun (b ∷ bytes) = closed begun b ++ ended_lines (grown begun b) bytes

-- the line that the end of the input ends: what has begun, if that is any byte
abbrev pub last_line : List ℕ → List (List ℕ)
last_line [] = []
last_line (b ∷ begun) = (b ∷ begun) ∷ []

-- the lines of a script, each without its end
abbrev pub script_lines : List ℕ → List (List ℕ)
script_lines bytes = map without_return (ended_lines [] bytes ++ last_line (begun_after [] bytes))
