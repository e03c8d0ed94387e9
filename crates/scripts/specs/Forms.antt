-- The forms that a line may have.
use Rattle.std.specs.Prelude.{ℕ, Bool, true, false, List, [], ◌∷◌, ◌++◌, Option, codes, find, map, if◌then◌else◌}
use Rattle.std.specs.Str.{bytes_eq}
use Rattle.bounds.specs.declared.families.TheConstants.Family.{ALL}
use Rattle.bounds.specs.Families.{family_word, has_accuracies}
use Rattle.scripts.specs.declared.forms.Field.{Field}
use Rattle.scripts.specs.declared.forms.Field.TheVariants.{Rank, Accuracy, Frame as FrameField, Work, Deadline, Period}
use Rattle.scripts.specs.declared.forms.Field.TheVariants.{Jitter}
use Rattle.scripts.specs.declared.forms.LineForm.{LineForm}
use Rattle.scripts.specs.declared.forms.LineForm.TheVariants.{Bound, Frame, Admit, Dismiss, Inquire}

-- the first word of a line of a form
abbrev pub form_name : LineForm → List ℕ
form_name (Bound f) = family_word f
form_name Frame = codes "frame"
form_name Admit = codes "admit"
form_name Dismiss = codes "dismiss"
form_name Inquire = codes "inquire"

-- the numbers that follow it, in order: behind a bound its accuracy, where there is one bound of the kind for each
abbrev pub form_fields : LineForm → List Field
form_fields (Bound f) = if has_accuracies f then Accuracy ∷ [] else []
form_fields Frame = FrameField ∷ []
form_fields Admit = Rank ∷ Work ∷ Deadline ∷ Period ∷ Jitter ∷ []
form_fields Dismiss = Rank ∷ []
form_fields Inquire = Rank ∷ []

-- the forms that a line may have: of the calls once a bound has been named, else one of each kind of bound
abbrev pub forms_once : Bool → List LineForm
forms_once true = Frame ∷ Admit ∷ Dismiss ∷ Inquire ∷ []
forms_once false = map Bound ALL

-- the one of them whose name a word is
abbrev pub form_for : Bool → List ℕ → Option LineForm
form_for named word = find (λ form. bytes_eq (form_name form) word) (forms_once named)

-- a form with its numbers by name, as bytes
abbrev pub form_text : LineForm → List ℕ
form_text (Bound f) = if has_accuracies f then family_word f ++ codes " K" else family_word f
form_text Frame = codes "frame H"
form_text Admit = codes "admit RANK C D T J"
form_text Dismiss = codes "dismiss RANK"
form_text Inquire = codes "inquire RANK"

-- the name of a number in it, as bytes
abbrev pub field_text : Field → List ℕ
field_text Rank = codes "RANK"
field_text Accuracy = codes "K"
field_text FrameField = codes "H"
field_text Work = codes "C"
field_text Deadline = codes "D"
field_text Period = codes "T"
field_text Jitter = codes "J"
