-- Rows that are no table.
use Rattle.std.proofs.Common.{◌≡◌, ℕ, ◌+◌, ◌≤◌, inl, inr, List, [], ◌∷◌, ◌++◌, length, map, Some, None, Option, refl}
use Rattle.std.proofs.Common.{sym, ap, subst, ◌∙◌, arith}
use Rattle.std.proofs.lemmas.List.{length-append, length-map}
use Rattle.std.proofs.lemmas.Str.{IsUtf8-string_bytes}
use Rattle.std.specs.Str.{IsUtf8}
use Rattle.std.specs.Prelude.{String, IfSome}
use Rattle.std.specs.String.{string_bytes}
use Rattle.csv.specs.Machine.{next_record}
use Rattle.csv.specs.Reading.{AreRecords, Reached, strip_bom}
use Rattle.csv.specs.declared.parser.Config.{Config}
use Rattle.csv.specs.declared.parser.State.{State}
use Rattle.csv.specs.declared.parser.State.TheVariants as st
use Rattle.streams.specs.Held.{MayHold}
use Rattle.task_tables.specs.declared.forms.FieldsForm.{FieldsForm}
use Rattle.task_tables.specs.declared.tables.TaskTable.{TaskTable}
use Rattle.task_tables.specs.Columns.{IsHeading, column_named}
use Rattle.task_tables.specs.Forms.{config_of, form_of}
use Rattle.task_tables.specs.Refusals.{AreNoHeading, AreNoTable, CannotTake, IsNoTable}
use Rattle.task_tables.specs.Rows.{FieldRow, rows_in}
use Rattle.task_tables.specs.Tables.{AreRows, IsTable, table_columns, table_names, table_numbers}
use Rattle.task_tables.specs.Tasks.{name_of, numbers_of}
use Rattle.task_tables.proofs.Named.{same_columns}

-- no rows at all
pub no_rows : (rows : List FieldRow) → rows ≡ [] → AreNoTable rows
no_rows rows none t h =
    let parts = h.parts in
    absurd (cc)

-- a row that is no heading, where one must stand
pub no_first : (row : FieldRow) (rows rest : List FieldRow) → AreNoHeading row.fields → rows ≡ []
    → AreNoTable (rows ++ row ∷ rest)
no_first row rows rest bad none t h =
    let parts : row ∷ rest ≡ h.headings ∷ h.tasks = ap (λ r. r ++ row ∷ rest) (sym none) ∙ h.parts in
    let same : h.headings ≡ row = cc in
    bad (table_columns t) (subst (λ (r : FieldRow). IsHeading r.fields (table_columns t)) same h.heading)

-- an item that is none, and one that is no text
none_among : {X Y : Type 0} (f : X → Option Y) (xs : List X) (x : X) (rest : List X) (ys : List Y)
    → map f (xs ++ x ∷ rest) ≡ map (λ y. Some y) ys → f x ≡ None → ⊥
none_among f [] x rest [] e n = absurd (cc)
none_among f [] x rest (y ∷ ys) e n = absurd (cc)
none_among f (z ∷ xs) x rest [] e n = absurd (cc)
none_among f (z ∷ xs) x rest (y ∷ ys) e n = none_among f xs x rest ys (cc) n

no_text_among : {X Z : Type 0} (f : X → List ℕ) (xs : List X) (x : X) (rest : List X) (names : List (String Z))
    → map f (xs ++ x ∷ rest) ≡ map string_bytes names → ¬ (IsUtf8 (f x)) → ⊥
no_text_among f [] x rest [] e n = absurd (cc)
no_text_among f [] x rest (y ∷ ys) e n =
    let same : string_bytes y ≡ f x = cc in
    n (subst IsUtf8 same (IsUtf8-string_bytes y))
no_text_among f (z ∷ xs) x rest [] e n = absurd (cc)
no_text_among f (z ∷ xs) x rest (y ∷ ys) e n = no_text_among f xs x rest ys (cc) n

-- a row that no table can take behind its tasks
pub no_next : (old : TaskTable) (row : FieldRow) (rows rest : List FieldRow) → CannotTake old row.fields
    → IsTable rows old → AreNoTable (rows ++ row ∷ rest)
no_next old row rows rest cannot table t h =
    let parts : table.headings ∷ (table.tasks ++ row ∷ rest) ≡ h.headings ∷ h.tasks =
    ap (λ r. r ++ row ∷ rest) (sym table.parts) ∙ h.parts in
    let heads : table.headings ≡ h.headings = cc in
    let tasks : h.tasks ≡ table.tasks ++ row ∷ rest = cc in
    let columns : table_columns t ≡ table_columns old =
    same_columns _ _
    (sym h.heading.named ∙ ap (λ (r : FieldRow). map column_named r.fields) (sym heads) ∙ table.heading.named) in
    let numbers : map (λ (r : FieldRow). numbers_of (table_columns old) r.fields) (table.tasks ++ row ∷ rest)
    ≡ map (λ n. Some n) (table_numbers t) =
    subst (λ cs. map (λ (r : FieldRow). numbers_of cs r.fields) (table.tasks ++ row ∷ rest)
    ≡ map (λ n. Some n) (table_numbers t)) columns
    (subst (λ ts. map (λ (r : FieldRow). numbers_of (table_columns t) r.fields) ts
    ≡ map (λ n. Some n) (table_numbers t)) tasks h.numbers) in
    let names : map (λ (r : FieldRow). name_of (table_columns old) r.fields) (table.tasks ++ row ∷ rest)
    ≡ table_names t =
    subst (λ cs. map (λ (r : FieldRow). name_of cs r.fields) (table.tasks ++ row ∷ rest) ≡ table_names t) columns
    (subst (λ ts. map (λ (r : FieldRow). name_of (table_columns t) r.fields) ts ≡ table_names t) tasks h.names) in
    elim cannot [
      | inl full ↦
          let had : length table.tasks ≡ length (table_numbers old) =
          sym (length-map table.tasks _) ∙ ap length table.numbers ∙ length-map (table_numbers old) _ in
          let has : length (table.tasks ++ row ∷ rest) ≡ length (table_numbers t) =
          sym (length-map (table.tasks ++ row ∷ rest) _) ∙ ap length numbers ∙ length-map (table_numbers t) _ in
          let more : length (table.tasks ++ row ∷ rest) ≡ length table.tasks + length (row ∷ rest) =
          length-append table.tasks (row ∷ rest) in
          let few : length (table_numbers t) ≤ 32 = subst (λ n. n ≤ 32) t.numbers.ok.0 t.few in
          omega arith
      | inr (inl none) ↦ none_among (λ (r : FieldRow). numbers_of (table_columns old) r.fields) table.tasks row rest
          (table_numbers t) numbers none
      | inr (inr bad) ↦ no_text_among
          (λ (r : FieldRow). name_of (table_columns old) r.fields) table.tasks row rest t.names.items names bad
    ]

-- a text has no records but its own
reached_same : (cfg : Config) (s a b : State) (text x y : List ℕ) (xs ys : List (List (List ℕ)))
    → Reached cfg s text xs a x → next_record cfg a [] [] x ≡ None → Reached cfg s text ys b y
    → next_record cfg b [] [] y ≡ None → xs ≡ ys
unfolding Reached
reached_same cfg s a b text x y [] [] ra na rb nb = refl
reached_same cfg s a b text x y [] (r ∷ ys) ra na rb nb =
    let none : next_record cfg s [] [] text ≡ None = rw (ra.0, ra.1) na in
    let some = rb.1 in
    absurd (cc)
reached_same cfg s a b text x y (r ∷ xs) [] ra na rb nb =
    let none : next_record cfg s [] [] text ≡ None = rw (rb.0, rb.1) nb in
    let some = ra.1 in
    absurd (cc)
reached_same cfg s a b text x y (r ∷ xs) (q ∷ ys) (p, pa, ea, ra) na (o, pb, eb, rb) nb =
    let same : o ≡ p = cc in
    let others : xs ≡ ys =
    reached_same cfg p.1 a b p.2 x y xs ys ra na (subst (λ z. Reached cfg z.1 z.2 ys b y) same rb) nb in
    rw (ea, eb, same, others) refl

pub same_records : (cfg : Config) (s : State) (text : List ℕ) (xs ys : List (List (List ℕ))) → AreRecords cfg s text xs
    → AreRecords cfg s text ys → xs ≡ ys
same_records cfg s text xs ys (a, x, ra, na) (b, y, rb, nb) = reached_same cfg s a b text x y xs ys ra na rb nb

-- the rows of some bytes
pub rows_are : (bytes text : List ℕ) (form : FieldsForm) (records : List (List (List ℕ))) → form ≡ form_of bytes
    → text ≡ strip_bom bytes → AreRecords (config_of form) st.StartRecord (strip_bom bytes) records
    → AreRows bytes (rows_in form text records)
rows_are bytes text form records e whole own =
    record {
      records = records;
      are_records = subst (λ f. AreRecords (config_of f) st.StartRecord (strip_bom bytes) records) e own;
      rows_are = rw (e, whole) refl;
    }

-- bytes have no rows but their own
same_rows : (bytes : List ℕ) (xs ys : List FieldRow) → AreRows bytes xs → AreRows bytes ys → xs ≡ ys
same_rows bytes xs ys a b =
    let same : a.records ≡ b.records =
    same_records (config_of (form_of bytes)) st.StartRecord
    (strip_bom bytes) a.records b.records a.are_records b.are_records in
    a.rows_are ∙ ap (rows_in (form_of bytes) (strip_bom bytes)) same ∙ sym b.rows_are

-- bytes whose rows are no table
pub no_table : (bytes : List ℕ) (rows : List FieldRow) → AreRows bytes rows → AreNoTable rows → IsNoTable bytes
no_table bytes rows own bad t read =
    bad t (subst (λ rs. IsTable rs t) (same_rows bytes read.rows rows read.are_rows own) read.table)

-- what was read to the end may be what was held
pub may_hold : (held : Option (List ℕ)) (old new : List ℕ) → old ≡ [] → IfSome held (λ xs. new ≡ old ++ xs)
    → MayHold held new
may_hold None old new none h = tt
may_hold (Some known) old new none h = h ∙ rw none refl
