-- What an error tells.
use Rattle.std.proofs.Common.{◌≡◌, ℕ, ◌+◌, ◌<◌, ◌≤◌, true, false, Bor, List, [], ◌∷◌, ◌++◌, Option, None, Some, length}
use Rattle.std.proofs.Common.{map, drop, get_or, refl, sym, ap, ◌∙◌}
use Rattle.std.specs.Option.{option_or}
use Rattle.std.proofs.lemmas.List.{at_drop_all, at_drop_more}
use Rattle.task_tables.specs.declared.columns.Column.{Column}
use Rattle.task_tables.specs.declared.errors.ReadError.{ReadError}
use Rattle.task_tables.specs.declared.errors.ReadError.TheVariants as error
use Rattle.task_tables.specs.declared.misreads.Expected.TheVariants as expected
use Rattle.task_tables.specs.declared.misreads.Misread.{Misread}
use Rattle.task_tables.specs.Columns.{column_named, has_column, has_numbers}
use Rattle.task_tables.specs.Misreads.{ToldMisread, expected_for, of_field, of_line, place_at, told_by}
use Rattle.task_tables.specs.Refusals.{is_misread}
use Rattle.csv.specs.Reading.{strip_bom}
use Rattle.streams.specs.Held.{MayHold}
use Rattle.task_tables.specs.Rows.{FieldRow}
use Rattle.task_tables.specs.Tables.{AreRows}
use Rattle.task_tables.specs.Tasks.{fits, refusal_of}
use Rattle.task_tables.specs.Told.{Tells, TellsOf, TellsOfAll, fields_told, headings_told, no_column, rows_told}

-- an error that is no misread tells nothing of the text
pub no_misread : (told : Option ToldMisread) (e : ReadError) → is_misread e ≡ false → Tells told e
no_misread told (error.Misread m) h = absurd (cc)
no_misread told (error.Input e) h = tt
no_misread told (error.Memory e) h = tt

-- one that is tells what it is to tell
pub tells : (told : Option ToldMisread) (t : ToldMisread) (m : Misread) (e : ReadError) → told ≡ Some t
    → told_by m ≡ Some t → e ≡ error.Misread m → Tells told e
tells told t m e at by is = rw is (t, at, by)

pub tells_some : (told a : Option ToldMisread) (b : ToldMisread) (m : Misread) (e : ReadError)
    → told ≡ option_or a (Some b) → told_by m ≡ option_or a (Some b) → e ≡ error.Misread m → Tells told e
tells_some told None b m e at by is = tells told b m e at by is
tells_some told (Some t) b m e at by is = tells told t m e at by is

-- the headings behind some, of which the first names a column, and not one of those before it
pub told_behind : (line : ℕ) (columns : List Column) (hs : List (Bor (List ℕ))) (i : ℕ) (d : Bor (List ℕ)) (c : Column)
    → i < length hs
    → column_named (get_or hs i d).now ≡ Some c → has_column columns c ≡ false
    → headings_told line columns (map (λ h. h.now) (drop i hs))
    ≡ headings_told line (columns ++ c ∷ []) (map (λ h. h.now) (drop (i + 1) hs))
unfolding headings_told
told_behind line columns hs i d c lt named new =
    at_drop_more (λ (rest : List (Bor (List ℕ))). headings_told line columns (map (λ h. h.now) rest)) hs i d lt
    ∙ rw (named, new) refl

-- the same, where the first names none
pub told_none : (line : ℕ) (columns : List Column) (hs : List (Bor (List ℕ))) (i : ℕ) (d : Bor (List ℕ)) → i < length hs
    → length columns ≡ i
    → column_named (get_or hs i d).now ≡ None
    → headings_told line columns (map (λ h. h.now) (drop i hs)) ≡ Some (no_column line (i + 1) (get_or hs i d).now)
unfolding headings_told
told_none line columns hs i d lt count none =
    at_drop_more (λ (rest : List (Bor (List ℕ))). headings_told line columns (map (λ h. h.now) rest)) hs i d lt
    ∙ rw (none, count) refl

-- the same, where it names one of those before it
pub told_again : (line : ℕ) (columns : List Column) (hs : List (Bor (List ℕ))) (i : ℕ) (d : Bor (List ℕ)) (c : Column)
    → i < length hs → length columns ≡ i
    → column_named (get_or hs i d).now ≡ Some c → has_column columns c ≡ true
    → headings_told line columns (map (λ h. h.now) (drop i hs))
    ≡ Some (of_field (place_at line (i + 1)) None expected.OtherHeading None)
unfolding headings_told
told_again line columns hs i d c lt count named old =
    at_drop_more (λ (rest : List (Bor (List ℕ))). headings_told line columns (map (λ h. h.now) rest)) hs i d lt
    ∙ rw (named, old, count) refl

-- no heading more, where one is missing and where none is
pub told_missing : (line : ℕ) (columns : List Column) → has_numbers columns ≡ false
    → headings_told line columns [] ≡ Some (of_line line expected.Headings None)
unfolding headings_told
told_missing line columns lacks = rw lacks refl

pub told_whole : (line : ℕ) (columns : List Column) → has_numbers columns ≡ true → headings_told line columns [] ≡ None
unfolding headings_told
told_whole line columns has = rw has refl

-- a field that fits under its column, one that does not, and no field more
pub told_fit : (all : List Column) (row : FieldRow) (cs : List Column) (fs : List (Bor (List ℕ))) (i : ℕ) (c : Column)
    (f : Bor (List ℕ)) → i < length cs → i < length fs
    → fits (get_or cs i c) (get_or fs i f).now ≡ true
    → fields_told all row (i + 1) (drop i cs) (map (λ f. f.now) (drop i fs))
    ≡ fields_told all row (i + 1 + 1) (drop (i + 1) cs) (map (λ f. f.now) (drop (i + 1) fs))
unfolding fields_told
told_fit all row cs fs i c f lt lt' good =
    at_drop_more (λ (rest : List Column). fields_told all row (i + 1) rest (map (λ f. f.now) (drop i fs))) cs i c lt
    ∙ at_drop_more
    (λ (rest : List (Bor (List ℕ))).
    fields_told all row (i + 1) (get_or cs i c ∷ drop (i + 1) cs) (map (λ f. f.now) rest)) fs i f lt'
    ∙ rw good refl

pub told_misfit : (all : List Column) (row : FieldRow) (cs : List Column) (fs : List (Bor (List ℕ))) (i : ℕ)
    (c : Column) (f : Bor (List ℕ)) → i < length cs → i < length fs
    → fits (get_or cs i c) (get_or fs i f).now ≡ false
    → fields_told all row (i + 1) (drop i cs) (map (λ f. f.now) (drop i fs))
    ≡ Some (of_field (place_at row.line (i + 1)) (Some (get_or cs i c))
    (expected_for expected.Number (get_or fs i f).now)
    (refusal_of all row.fields (get_or cs i c) (get_or fs i f).now))
unfolding fields_told
told_misfit all row cs fs i c f lt lt' bad =
    at_drop_more (λ (rest : List Column). fields_told all row (i + 1) rest (map (λ f. f.now) (drop i fs))) cs i c lt
    ∙ at_drop_more
    (λ (rest : List (Bor (List ℕ))).
    fields_told all row (i + 1) (get_or cs i c ∷ drop (i + 1) cs) (map (λ f. f.now) rest)) fs i f lt'
    ∙ rw bad refl

pub told_fitting : (all : List Column) (row : FieldRow) (k : ℕ) (cs : List Column) (fs : List (List ℕ)) (i : ℕ)
    → length cs ≤ i → fields_told all row k (drop i cs) fs ≡ None
unfolding fields_told
told_fitting all row k cs fs i le = at_drop_all (λ (rest : List Column). fields_told all row k rest fs) cs i le

-- an error tells what is told of the rows of some bytes, and of all that a reader held
pub tells_of : (bytes text : List ℕ) (rows : List FieldRow) (e : ReadError) → text ≡ strip_bom bytes
    → AreRows bytes rows → Tells (rows_told text rows) e → TellsOf bytes e
tells_of bytes text rows (error.Misread m) whole own (t, at, by) =
    record { rows = rows; are_rows = own; told = t; first = ap (λ x. rows_told x rows) (sym whole) ∙ at; is_told = by }
tells_of bytes text rows (error.Input e) whole own h = tt
tells_of bytes text rows (error.Memory e) whole own h = tt

pub tells_of_all : (held : Option (List ℕ)) (bytes : List ℕ) (e : ReadError) → MayHold held bytes → TellsOf bytes e
    → TellsOfAll held e
tells_of_all held bytes (error.Misread m) all h = record { bytes = bytes; all = all; told = h }
tells_of_all held bytes (error.Input e) all h = tt
tells_of_all held bytes (error.Memory e) all h = tt

-- one that is no misread tells nothing of them
pub no_misread_of : (bytes : List ℕ) (e : ReadError) → is_misread e ≡ false → TellsOf bytes e
no_misread_of bytes (error.Misread m) h = absurd (cc)
no_misread_of bytes (error.Input e) h = tt
no_misread_of bytes (error.Memory e) h = tt

pub no_misread_of_all : (held : Option (List ℕ)) (e : ReadError) → is_misread e ≡ false → TellsOfAll held e
no_misread_of_all held (error.Misread m) h = absurd (cc)
no_misread_of_all held (error.Input e) h = tt
no_misread_of_all held (error.Memory e) h = tt
