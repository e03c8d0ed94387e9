-- The fields of a record, one more at a time.
use Rattle.std.proofs.Common.{◌≡◌, ℕ, zero, suc, ◌+◌, ◌<◌, true, false, List, [], ◌∷◌, ◌++◌, length, map, take, None}
use Rattle.std.proofs.Common.{Some, refl, sym, ap, arith, add-one, append-nil}
use Rattle.std.specs.List.{filter}
use Rattle.csv.specs.Records.{field_at}
use Rattle.task_tables.specs.declared.forms.FieldsForm.{FieldsForm}
use Rattle.task_tables.specs.Fields.{trimmed}
use Rattle.task_tables.specs.Forms.{counts, fields_in}
use Rattle.std.proofs.lemmas.List.{map-append}
use Rattle.std.proofs.lemmas.List.Elements.{filter-append}

pub take_field : (fs : List (List ℕ)) (i : ℕ) (f : List ℕ) → field_at fs i ≡ Some f
    → take (suc i) fs ≡ take i fs ++ f ∷ []
unfolding field_at
take_field [] i f e = absurd (cc)
take_field (g ∷ fs) zero f e = cc
take_field (g ∷ fs) (suc i) f e = ap (λ t. g ∷ t) (take_field fs i f e)

pub field_there : (fs : List (List ℕ)) (i : ℕ) → i < length fs → field_at fs i ≡ None → ⊥
unfolding field_at
field_there [] i h e = omega arith
field_there (g ∷ fs) zero h e = absurd (cc)
field_there (g ∷ fs) (suc i) h e = field_there fs i (omega arith) e

pub fields_in-take : (form : FieldsForm) (fs : List (List ℕ)) (i : ℕ) (f : List ℕ) → field_at fs i ≡ Some f
    → fields_in form (take (suc i) fs) ≡ fields_in form (take i fs) ++ filter (counts form) (trimmed f ∷ [])
fields_in-take form fs i f e =
    rw (
      take_field fs i f e,
      map-append trimmed (take i fs) (f ∷ []),
      filter-append (counts form) (map trimmed (take i fs)) (trimmed f ∷ []),
    ) refl

-- the fields that were taken, behind a field that counts, one that does not, and one that is not there
pub grown : (form : FieldsForm) (fs : List (List ℕ)) (i : ℕ) (f : List ℕ) (taken : List (List ℕ))
    → taken ≡ fields_in form (take i fs) → field_at fs i ≡ Some f
    → counts form (trimmed f) ≡ true → taken ++ trimmed f ∷ [] ≡ fields_in form (take (i + 1) fs)
grown form fs i f taken before there counted =
    rw (add-one i, fields_in-take form fs i f there, before, counted) refl

pub kept : (form : FieldsForm) (fs : List (List ℕ)) (i : ℕ) (f : List ℕ) (taken : List (List ℕ))
    → taken ≡ fields_in form (take i fs) → field_at fs i ≡ Some f
    → counts form (trimmed f) ≡ false → taken ≡ fields_in form (take (i + 1) fs)
kept form fs i f taken before there counted =
    rw (add-one i, fields_in-take form fs i f there, before, counted) (sym (append-nil _))
