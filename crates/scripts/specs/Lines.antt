-- What a line of a script says: its bytes, without its end, once a bound has been named or before.
use Rattle.std.specs.Prelude.{ℕ, Bool, true, false, List, [], ◌∷◌, length, Result, Ok, Err, ◌==◌, nat_lt, slice_index}
use Rattle.std.specs.Prelude.{if◌then◌else◌}
use Rattle.std.specs.Option.{option_map_or}
use Rattle.rows.specs.Frames.{frame_of}
use Rattle.admission.specs.declared.calls.Call.TheVariants.{Frame as SetFrame, Admit as AdmitRow, Dismiss as DismissRow}
use Rattle.admission.specs.declared.calls.Call.TheVariants.{Inquire as InquireRow}
use Rattle.scripts.specs.declared.expecting.ExpectedWords.{ExpectedWords}
use Rattle.scripts.specs.declared.expecting.ExpectedWords.TheVariants.{ShortLine, Bound as AnyBound, CallName}
use Rattle.scripts.specs.declared.expecting.ExpectedWords.TheVariants.{Form as WordsOfForm, Number}
use Rattle.scripts.specs.declared.forms.Field.{Field}
use Rattle.scripts.specs.declared.forms.LineForm.{LineForm}
use Rattle.scripts.specs.declared.forms.LineForm.TheVariants.{Bound as BoundForm, Frame, Admit, Dismiss, Inquire}
use Rattle.scripts.specs.declared.lines.ScriptLine.{ScriptLine}
use Rattle.scripts.specs.declared.lines.ScriptLine.TheVariants.{Passed, Bound as NamedBound, Call, NoCall}
use Rattle.scripts.specs.Forms.{form_fields, form_for}
use Rattle.numerals.specs.Numerals.{number_of}
use Rattle.scripts.specs.Words.{words_of}

-- a number put in front of the numbers, where there are any
abbrev pub put_first : ℕ → Result (List ℕ) Field → Result (List ℕ) Field
put_first n (Ok ns) = Ok (n ∷ ns)
put_first n (Err field) = Err field

-- the numbers that words are, each for its field; or the field of the leftmost that is none
abbrev pub numbers_of : List Field → List (List ℕ) → Result (List ℕ) Field
numbers_of [] words = Ok []
numbers_of (field ∷ fields) [] = Err field
numbers_of (field ∷ fields) (word ∷ words) =
    option_map_or (λ n. put_first n (numbers_of fields words)) (number_of word) (Err field)

-- what a line of a form says by its numbers: of a bound its accuracy too, which is 0 where none is told
abbrev pub line_by_numbers : LineForm → List ℕ → ScriptLine
line_by_numbers (BoundForm f) ns = NamedBound f (slice_index ns 0)
line_by_numbers Frame ns = Call (SetFrame (frame_of (slice_index ns 0)))
line_by_numbers Admit ns =
    Call (AdmitRow (slice_index ns 0)
    (record {
      work = slice_index ns 1;
      deadline = slice_index ns 2;
      period = slice_index ns 3;
      jitter =
          slice_index ns 4;
    }))
line_by_numbers Dismiss ns = Call (DismissRow (slice_index ns 0))
line_by_numbers Inquire ns = Call (InquireRow (slice_index ns 0))

-- the line of a form whose numbers were read; or none, where a number was expected for a field
abbrev pub line_by_reading : LineForm → Result (List ℕ) Field → ScriptLine
line_by_reading form (Ok ns) = line_by_numbers form ns
line_by_reading form (Err field) = NoCall (Number field)

-- what a line says whose first word names a form, by the words after it
abbrev pub line_by_form : LineForm → List (List ℕ) → ScriptLine
line_by_form form words =
    if length words == length (form_fields form)
    then line_by_reading form (numbers_of (form_fields form) words)
    else NoCall (WordsOfForm form)

-- what was expected where the first word names no form
abbrev pub expected_name : Bool → ExpectedWords
expected_name true = CallName
expected_name false = AnyBound

-- what a line says by its words
abbrev pub line_by_words : Bool → List (List ℕ) → ScriptLine
line_by_words named [] = Passed
line_by_words named (word ∷ words) =
    option_map_or (λ form. line_by_form form words) (form_for named word) (NoCall (expected_name named))

-- what a line says: nothing where its first byte is #, whatever its length, and else by its words, if it is not too
-- long
abbrev pub line_of : Bool → List ℕ → ScriptLine
line_of named line =
    if slice_index line 0 == 35 then Passed
    else (if nat_lt 128 (length line) then NoCall ShortLine else line_by_words named (words_of line))
