-- The fields that can stand under their columns, and those that numbers and a name are read from.
use Rattle.std.proofs.Common.{◌≡◌, ℕ, suc, ◌+◌, ◌<◌, ◌==◌, Bool, true, false, cond, List, [], ◌∷◌, length, Option, None}
use Rattle.std.proofs.Common.{Some, inl, inr, refl, sym, ap, ◌∙◌, subst, arith}
use Rattle.std.specs.Prelude.{◌⊎◌, is_some, nat_le, nat_lt, option_map, slice_get}
use Rattle.std.specs.List.{AllByRecursion, IsDistinct, list_any, position, position_or_len}
use Rattle.std.specs.Option.{option_and_then, option_or}
use Rattle.std.specs.Str.{IsUtf8, is_utf8}
use Rattle.std.proofs.lemmas.Bool.{cases_Bool, cases_lt, false_from_ne_true, le-ltb, lt-ltb, or_parts}
use Rattle.std.proofs.lemmas.Str.{IsUtf8-from_is_utf8, IsUtf8-nil, is_utf8-from_IsUtf8}
use Rattle.rows.specs.declared.tasks.Numbers.{Numbers}
use Rattle.numerals.specs.Numerals.{number_of}
use Rattle.task_tables.specs.declared.columns.Column.{Column}
use Rattle.task_tables.specs.declared.columns.Column.TheVariants.{Name, Work, Deadline, Period, Jitter}
use Rattle.task_tables.specs.Columns.{AreDistinct, column_number, has_column, has_numbers, is_column}
use Rattle.task_tables.specs.Misreads.{ToldMisread}
use Rattle.task_tables.specs.Rows.{FieldRow}
use Rattle.task_tables.specs.Tasks.{all_numbers, field_under, fits, jitter_of, name_of, number_under, numbers_of}
use Rattle.task_tables.specs.Told.{count_told, fields_told, misfit_told, task_told}

-- a column by its number
column_at : ℕ → Column
column_at n = cond (n == 0) Name (cond (n == 1) Work (cond (n == 2) Deadline (cond (n == 3) Period Jitter)))

by_number : (c : Column) → column_at (column_number c) ≡ c
unfolding column_at
by_number Name = refl
by_number Work = refl
by_number Deadline = refl
by_number Period = refl
by_number Jitter = refl

pub eq_number : (a b : ℕ) → (a == b) ≡ true → a ≡ b
eq_number a b e = grind arith

same_column : (c d : Column) → is_column c d ≡ true → d ≡ c
same_column c d e = sym (by_number d) ∙ ap column_at (eq_number (column_number d) (column_number c) e) ∙ by_number c

is_itself : (c : Column) → is_column c c ≡ true
is_itself Name = refl
is_itself Work = refl
is_itself Deadline = refl
is_itself Period = refl
is_itself Jitter = refl

-- the first place that passes, and a later one
first_place : {X : Type 0} (p : X → Bool) (x : X) (xs : List X) → p x ≡ true → position p (x ∷ xs) ≡ Some 0
first_place p x xs e =
    let at_once : position p (x ∷ xs) ≡ cond (nat_lt 0 (length (x ∷ xs))) (Some 0) None = rw e refl in
    at_once ∙ ap (λ b. cond b (Some 0) None) (lt-ltb 0 (length (x ∷ xs)) (omega arith))

next_place : {X : Type 0} (p : X → Bool) (x : X) (xs : List X) → p x ≡ false
    → position p (x ∷ xs) ≡ option_map suc (position p xs)
next_place p x xs e =
    let n = position_or_len p xs in
    let later : position p (x ∷ xs) ≡ cond (nat_lt (1 + n) (length (x ∷ xs))) (Some (1 + n)) None = rw e refl in
    elim (cases_lt n (length xs)) [
      | inl lt ↦
          later ∙ ap (λ b. cond b (Some (1 + n)) None) (lt-ltb (1 + n) (length (x ∷ xs)) (omega arith))
          ∙ ap (λ m. Some m) (omega arith)
          ∙ ap (option_map suc) (sym (ap (λ b. cond b (Some n) None) (lt-ltb n (length xs) lt)))
      | inr le ↦
          later ∙ ap (λ b. cond b (Some (1 + n)) None) (le-ltb (1 + n) (length (x ∷ xs)) (omega arith))
          ∙ ap (option_map suc) (sym (ap (λ b. cond b (Some n) None) (le-ltb n (length xs) (omega arith))))
    ]

shifted : (g : List ℕ) (gs : List (List ℕ)) (o : Option ℕ)
    → option_and_then (slice_get (g ∷ gs)) (option_map suc o) ≡ option_and_then (slice_get gs) o
shifted g gs None = refl
shifted g gs (Some k) = refl

-- the field under the first column, and under another one
pub field_first : (c d : Column) (ds : List Column) (g : List ℕ) (gs : List (List ℕ)) → is_column c d ≡ true
    → field_under (d ∷ ds) (g ∷ gs) c ≡ Some g
field_first c d ds g gs e = ap (option_and_then (slice_get (g ∷ gs))) (first_place (is_column c) d ds e)

pub field_next : (c d : Column) (ds : List Column) (g : List ℕ) (gs : List (List ℕ)) → is_column c d ≡ false
    → field_under (d ∷ ds) (g ∷ gs) c ≡ field_under ds gs c
field_next c d ds g gs e =
    ap (option_and_then (slice_get (g ∷ gs))) (next_place (is_column c) d ds e)
    ∙ shifted g gs (position (is_column c) ds)

-- a column that stands behind some is another than each of these, where none stands twice
another : (n : ℕ) (c : Column) (ds : List Column) → AllByRecursion (λ z. (n == column_number z) ≡ false) ds
    → has_column ds c ≡ true → (n == column_number c) ≡ false
another n c [] all has = absurd (cc)
another n c (d ∷ ds) all has =
    elim (cases_Bool (is_column c d)) [
      | inl e ↦ subst (λ z. (n == column_number z) ≡ false) (same_column c d e) all.0
      | inr e ↦ another n c ds all.1 (rw e at has)
    ]

-- where what is told is a field, it stands under a column and does not fit there
pub misfit : (all cs : List Column) (row : FieldRow) (k : ℕ) (fs : List (List ℕ)) (t : ToldMisread) → AreDistinct cs
    → fields_told all row k cs fs ≡ Some t
    → (c : Column) × (f : List ℕ) × (has_column cs c ≡ true) × (field_under cs fs c ≡ Some f) × (fits c f ≡ false)
unfolding IsDistinct fields_told
misfit all [] row k fs t once e = absurd (cc)
misfit all (d ∷ ds) row k [] t once e = absurd (cc)
misfit all (d ∷ ds) row k (g ∷ gs) t once e =
    elim (cases_Bool (fits d g)) [
      | inl fit ↦
          let (c, f, has, under, bad) = misfit all ds row (k + 1) gs t once.1 (rw fit at e) in
          let other : is_column c d ≡ false = another (column_number d) c ds once.0 has in
          (c, f, rw (other, has) refl, field_next c d ds g gs other ∙ under, bad)
      | inr bad ↦ (d, g, rw (is_itself d) refl, field_first d d ds g gs (is_itself d), bad)
    ]

-- where nothing is told of the fields, each fits under its column
pub fits_under : (all cs : List Column) (row : FieldRow) (k : ℕ) (fs : List (List ℕ)) (c : Column)
    → length fs ≡ length cs → fields_told all row k cs fs ≡ None → has_column cs c ≡ true
    → (f : List ℕ) × (field_under cs fs c ≡ Some f) × (fits c f ≡ true)
unfolding fields_told
fits_under all [] row k fs c size none has = absurd (cc)
fits_under all (d ∷ ds) row k [] c size none has = absurd (cc)
fits_under all (d ∷ ds) row k (g ∷ gs) c size none has =
    elim (cases_Bool (fits d g)) [
      | inl fit ↦
          elim (cases_Bool (is_column c d)) [
            | inl e ↦ (g, field_first c d ds g gs e, subst (λ z. fits z g ≡ true) (same_column c d e) fit)
            | inr e ↦
                let (f, under, good) =
                fits_under all ds row (k + 1) gs c (omega arith) (rw fit at none) (rw e at has) in
                (f, field_next c d ds g gs e ∙ under, good)
          ]
      | inr bad ↦
          let some = rw bad at none in
          absurd (cc)
    ]

-- a column that is not there
no_place : {X : Type 0} (p : X → Bool) (xs : List X) → list_any p xs ≡ false → position p xs ≡ None
no_place p [] none = refl
no_place p (x ∷ xs) none =
    let parts = or_parts (p x) (list_any p xs) none in
    next_place p x xs parts.0 ∙ ap (option_map suc) (no_place p xs parts.1)

-- a number, where it is some, and where it is none
none_is : {X : Type 0} (o : Option X) → is_some o ≡ false → o ≡ None
none_is None e = refl
none_is (Some x) e = absurd (cc)

some_is : {X : Type 0} (o : Option X) → is_some o ≡ true → (x : X) × (o ≡ Some x)
some_is None e = absurd (cc)
some_is (Some x) e = (x, refl)

number_there : (cs : List Column) (fs : List (List ℕ)) (c : Column) (f : List ℕ) → field_under cs fs c ≡ Some f
    → is_some (number_of f) ≡ true → (n : ℕ) × (number_under cs fs c ≡ Some n)
number_there cs fs c f under good =
    let (n, is) = some_is (number_of f) good in
    (n, ap (option_and_then number_of) under ∙ is)

no_number : (cs : List Column) (fs : List (List ℕ)) (c : Column) (f : List ℕ) → field_under cs fs c ≡ Some f
    → is_some (number_of f) ≡ false → number_under cs fs c ≡ None
no_number cs fs c f under bad = ap (option_and_then number_of) under ∙ none_is (number_of f) bad

-- four numbers, of which one is none
without_deadline : (w p j : Option ℕ) → all_numbers w None p j ≡ None
without_deadline None p j = refl
without_deadline (Some w) p j = refl

without_period : (w d j : Option ℕ) → all_numbers w d None j ≡ None
without_period None d j = refl
without_period (Some w) None j = refl
without_period (Some w) (Some d) j = refl

without_jitter : (w d p : Option ℕ) → all_numbers w d p None ≡ None
without_jitter None d p = refl
without_jitter (Some w) None p = refl
without_jitter (Some w) (Some d) None = refl
without_jitter (Some w) (Some d) (Some p) = refl

-- a field that does not fit leaves no numbers, or no name
spoils : (cs : List Column) (fs : List (List ℕ)) (c : Column) (f : List ℕ) → (length fs == length cs) ≡ true
    → has_column cs c ≡ true → field_under cs fs c ≡ Some f → fits c f ≡ false
    → (numbers_of cs fs ≡ None) ⊎ (¬ (IsUtf8 (name_of cs fs)))
spoils cs fs Name f size has under bad =
    inr (λ text.
    let named : name_of cs fs ≡ f = rw under refl in
    let good : is_utf8 f ≡ true = is_utf8-from_IsUtf8 f (subst IsUtf8 named text) in
    absurd (cc))
spoils cs fs Work f size has under bad = inl (rw (size, no_number cs fs Work f under bad) refl)
spoils cs fs Deadline f size has under bad =
    inl (rw (size, no_number cs fs Deadline f under bad) (without_deadline _ _ _))
spoils cs fs Period f size has under bad = inl (rw (size, no_number cs fs Period f under bad) (without_period _ _ _))
spoils cs fs Jitter f size has under bad =
    inl (rw (size, has, no_number cs fs Jitter f under bad) (without_jitter _ _ _))

-- where each field fits, there are numbers and a name
name_there : (all cs : List Column) (row : FieldRow) (fs : List (List ℕ)) → length fs ≡ length cs
    → fields_told all row 1 cs fs ≡ None → IsUtf8 (name_of cs fs)
name_there all cs row fs size none =
    elim (cases_Bool (has_column cs Name)) [
      | inl has ↦
          let (f, under, good) = fits_under all cs row 1 fs Name size none has in
          let named : name_of cs fs ≡ f = rw under refl in
          subst IsUtf8 (sym named) (IsUtf8-from_is_utf8 f good)
      | inr lacks ↦
          let empty : name_of cs fs ≡ [] = rw (no_place (is_column Name) cs lacks) refl in
          subst IsUtf8 (sym empty) IsUtf8-nil
    ]

jitter_there : (all cs : List Column) (row : FieldRow) (fs : List (List ℕ)) → length fs ≡ length cs
    → fields_told all row 1 cs fs ≡ None → (n : ℕ) × (jitter_of cs fs ≡ Some n)
jitter_there all cs row fs size none =
    elim (cases_Bool (has_column cs Jitter)) [
      | inl has ↦
          let (f, under, good) = fits_under all cs row 1 fs Jitter size none has in
          let (n, is) = number_there cs fs Jitter f under good in
          (n, rw (has, is) refl)
      | inr lacks ↦ (0, rw lacks refl)
    ]

numbers_there : (all cs : List Column) (row : FieldRow) (fs : List (List ℕ)) → length fs ≡ length cs
    → (length fs == length cs) ≡ true → fields_told all row 1 cs fs ≡ None → has_numbers cs ≡ true
    → (n : Numbers) × (numbers_of cs fs ≡ Some n)
numbers_there all cs row fs size same none has =
    let has_work : has_column cs Work ≡ true = grind arith in
    let has_deadline : has_column cs Deadline ≡ true = grind arith in
    let has_period : has_column cs Period ≡ true = grind arith in
    let (fw, under_w, good_w) = fits_under all cs row 1 fs Work size none has_work in
    let (fd, under_d, good_d) = fits_under all cs row 1 fs Deadline size none has_deadline in
    let (fp, under_p, good_p) = fits_under all cs row 1 fs Period size none has_period in
    let (w, is_w) = number_there cs fs Work fw under_w good_w in
    let (d, is_d) = number_there cs fs Deadline fd under_d good_d in
    let (p, is_p) = number_there cs fs Period fp under_p good_p in
    let (j, is_j) = jitter_there all cs row fs size none in
    (record { work = w; deadline = d; period = p; jitter = j }, rw (same, is_w, is_d, is_p, is_j) refl)

-- what is told of a row that a table with room cannot take
told_of_fields : (cs : List Column) (row : FieldRow) (o : Option ToldMisread) → fields_told cs row 1 cs row.fields ≡ o
    → (length row.fields == length cs) ≡ true → has_numbers cs ≡ true
    → (numbers_of cs row.fields ≡ None) ⊎ (¬ (IsUtf8 (name_of cs row.fields)))
    → o ≡ option_or o (Some (count_told cs row))
told_of_fields cs row (Some t) is same has cannot = refl
told_of_fields cs row None is same has cannot =
    let size = eq_number (length row.fields) (length cs) same in
    elim cannot [
      | inl none ↦
          let (n, some) = numbers_there cs cs row row.fields size same is has in
          absurd (cc)
      | inr bad ↦ absurd (bad (name_there cs cs row row.fields size is))
    ]

pub cannot_told : (cs : List Column) (before : ℕ) (row : FieldRow) → nat_le 32 before ≡ false → has_numbers cs ≡ true
    → (numbers_of cs row.fields ≡ None) ⊎ (¬ (IsUtf8 (name_of cs row.fields)))
    → task_told cs before row ≡ option_or (misfit_told cs row) (Some (count_told cs row))
cannot_told cs before row room has cannot =
    elim (cases_Bool (length row.fields == length cs)) [
      | inl same ↦ rw (room, same) (told_of_fields cs row (fields_told cs row 1 cs row.fields) refl same has cannot)
      | inr other ↦ rw (room, other) refl
    ]

-- nothing is told of a row that one takes
none_of_fields : (cs : List Column) (row : FieldRow) (o : Option ToldMisread) (n : Numbers)
    → fields_told cs row 1 cs row.fields ≡ o → (length row.fields == length cs) ≡ true → AreDistinct cs
    → numbers_of cs row.fields ≡ Some n → IsUtf8 (name_of cs row.fields) → o ≡ None
none_of_fields cs row None n is same once some text = refl
none_of_fields cs row (Some t) n is same once some text =
    let (c, f, has, under, bad) = misfit cs cs row 1 row.fields t once is in
    elim (spoils cs row.fields c f same has under bad) [
      | inl none ↦ absurd (cc)
      | inr no_text ↦ absurd (no_text text)
    ]

pub taken_told : (cs : List Column) (before : ℕ) (row : FieldRow) (n : Numbers) → nat_le 32 before ≡ false
    → numbers_of cs row.fields ≡ Some n → IsUtf8 (name_of cs row.fields) → AreDistinct cs
    → task_told cs before row ≡ None
taken_told cs before row n room some text once =
    elim (cases_Bool (length row.fields == length cs)) [
      | inl same ↦ rw (room, same)
          (none_of_fields cs row (fields_told cs row 1 cs row.fields) n refl same once some text)
      | inr other ↦
          let none : numbers_of cs row.fields ≡ None = rw other refl in
          absurd (cc)
    ]

-- a row with another number of fields
pub other_count : (cs : List Column) (row : FieldRow) → (length row.fields ≡ length cs → ⊥) → misfit_told cs row ≡ None
other_count cs row other =
    rw (false_from_ne_true (length row.fields == length cs) (λ e. other (eq_number (length row.fields) (length cs) e)))
    refl

-- a table that has not 32 tasks yet
pub has_room : (n : ℕ) → n < 32 → nat_le 32 n ≡ false
has_room n lt = false_from_ne_true (nat_le 32 n) (λ e. absurd (grind arith))
