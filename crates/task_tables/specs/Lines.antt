-- The lines of a text, and the one on which a record begins.
use Rattle.std.specs.Prelude.{ℕ, zero, suc, ◌+◌, ◌-◌, Bool, true, false, ◌==◌, ◌&&◌, ◌||◌, not, List, [], ◌∷◌, length}
use Rattle.std.specs.Prelude.{take, slice_index_or, Option, None, Some, if◌then◌else◌}
use Rattle.std.specs.Option.{option_map_or}
use Rattle.csv.specs.Machine.{Read, next_record}
use Rattle.csv.specs.declared.parser.Config.{Config}
use Rattle.csv.specs.declared.parser.State.TheVariants as st
use Rattle.task_tables.specs.Forms.{is_line_end}

-- a byte ends a line: a carriage return, or a line feed that stands behind none
abbrev pub ends_line_behind : ℕ → ℕ → Bool
ends_line_behind previous b = (b == 13) || ((b == 10) && not (previous == 13))

-- how many lines end in some bytes that stand behind a byte
unfoldable pub ended_behind : ℕ → List ℕ → ℕ
ended_behind previous [] = 0
ended_behind previous (b ∷ rest) = (if ends_line_behind previous b then 1 else 0) + ended_behind b rest

-- how many lines end in a text
abbrev pub ended_lines : List ℕ → ℕ
ended_lines text = ended_behind 0 text

-- the number of the line behind the last of a text
abbrev pub line_behind : List ℕ → ℕ
line_behind text = ended_lines text + (if is_line_end (slice_index_or text (length text - 1) 10) then 1 else 2)

-- a byte is passed over before a record, in a comment, which a number sign begins and a line feed ends, or as the end
-- of a line: whether the next byte stands in a comment; nothing, where a record begins with it
abbrev pub passes : Bool → ℕ → Option Bool
passes true b = Some (not (b == 10))
passes false b = if b == 35 then Some true else if is_line_end b then Some false else None

-- how many bytes are passed over before the record that comes next
unfoldable pub passed_over : Bool → List ℕ → ℕ
passed_over in_comment [] = 0
passed_over in_comment (b ∷ rest) = option_map_or (λ next. suc (passed_over next rest)) (passes in_comment b) 0

-- the number of the line on which the next record begins, of what is left of a text: one more than the lines that end
-- before its first byte
abbrev pub line_of : (text left : List ℕ) → ℕ
line_of text left = 1 + ended_lines (take (length text - length left + passed_over false left) text)

-- what a record that was read leaves of the text
abbrev pub left_by : Option Read → List ℕ
left_by None = []
left_by (Some p) = p.2

-- what is left of a text behind its next record
abbrev pub behind_one : Config → List ℕ → List ℕ
behind_one cfg text = left_by (next_record cfg st.StartRecord [] [] text)

-- what is left of a text behind so many records
unfoldable pub behind : Config → List ℕ → ℕ → List ℕ
behind cfg text zero = text
behind cfg text (suc k) = behind_one cfg (behind cfg text k)
