-- A table that grows by one row more.
use Rattle.std.proofs.Common.{◌≡◌, ℕ, suc, ◌+◌, ◌<◌, Bor, true, false, List, [], ◌∷◌, ◌++◌, ◌||◌, length, map, take}
use Rattle.std.proofs.Common.{drop, get_or, Some, refl, sym, ap, subst, ◌∙◌, arith, add-one, append-nil}
use Rattle.std.proofs.Math.Seq.{take-suc}
use Rattle.std.proofs.lemmas.List.{append_assoc, length-take-le, length-map, map-append, take-append-drop}
use Rattle.std.proofs.lemmas.List.Elements.{filter-append}
use Rattle.std.specs.List.{filter, list_any}
use Rattle.csv.specs.Records.{Row as Record, fields_of}
use Rattle.csv.specs.declared.parser.Config.{Config}
use Rattle.task_tables.specs.declared.forms.FieldsForm.{FieldsForm}
use Rattle.task_tables.specs.declared.tables.TaskTable.{TaskTable}
use Rattle.task_tables.specs.Columns.{IsHeading}
use Rattle.task_tables.specs.Forms.{config_of, fields_in, is_filled, says}
use Rattle.task_tables.specs.Lines.{behind, line_of}
use Rattle.task_tables.specs.Rows.{FieldRow, counted, lined, rows_in}
use Rattle.task_tables.specs.Tables.{IsTable, TakesTask, table_columns, table_lines, table_names, table_numbers}
use Rattle.task_tables.specs.Tasks.{name_of, numbers_of}

-- a heading alone
pub first_row : (t : TaskTable) (row : FieldRow) (rows : List FieldRow) → IsHeading row.fields (table_columns t)
    → table_numbers t ≡ [] → table_names t ≡ [] → table_lines t ≡ [] → rows ≡ []
    → IsTable (rows ++ row ∷ []) t
first_row t row rows h numbers names lines none =
    record {
      headings = row;
      tasks = [];
      parts = rw none refl;
      heading = h;
      numbers = rw numbers refl;
      names =
          sym names;
      lines = sym lines;
    }

-- two lists that answer to each other, with one item more
mapped_more : {X Y Z : Type 0} (f : X → Z) (g : Y → Z) (xs : List X) (ys : List Y) (x : X) (y : Y) → map f xs ≡ map g ys
    → f x ≡ g y → map f (xs ++ x ∷ []) ≡ map g (ys ++ y ∷ [])
mapped_more f g xs ys x y all one = rw (map-append f xs (x ∷ []), map-append g ys (y ∷ []), all, one) refl

map_more : {X Z : Type 0} (f : X → Z) (xs : List X) (zs : List Z) (x : X) → map f xs ≡ zs
    → map f (xs ++ x ∷ []) ≡ zs ++ f x ∷ []
map_more f xs zs x all = rw (map-append f xs (x ∷ []), all) refl

-- one task more
pub next_row : (old new : TaskTable) (row : FieldRow) (rows : List FieldRow) → IsTable rows old → TakesTask old new row
    → IsTable (rows ++ row ∷ []) new
next_row old new row rows table taken =
    record {
      headings = table.headings;
      tasks = table.tasks ++ row ∷ [];
      parts = ap (λ t. t ++ row ∷ []) table.parts;
      heading = subst (λ cs. IsHeading table.headings.fields cs) (sym taken.columns) table.heading;
      numbers =
          subst (λ cs. map (λ (r : FieldRow). numbers_of cs r.fields) (table.tasks ++ row ∷ [])
          ≡ map (λ n. Some n) (table_numbers new)) (sym taken.columns)
          (subst (λ ns. map (λ (r : FieldRow). numbers_of (table_columns old) r.fields) (table.tasks ++ row ∷ [])
          ≡ map (λ n. Some n) ns) (sym taken.numbers)
          (mapped_more (λ (r : FieldRow). numbers_of (table_columns old) r.fields) (λ n. Some n) table.tasks
          (table_numbers old) row taken.task table.numbers taken.reads));
      names =
          subst (λ cs. map (λ (r : FieldRow). name_of cs r.fields) (table.tasks ++ row ∷ []) ≡ table_names new)
          (sym taken.columns)
          (map_more (λ (r : FieldRow). name_of (table_columns old) r.fields) table.tasks
          (table_names old) row table.names ∙ sym taken.names);
      lines = map_more (λ (r : FieldRow). r.line) table.tasks (table_lines old) row table.lines ∙ sym taken.lines;
    }

-- a row says something, as a program asks its fields
pub says_any : (fields : List (Bor (List ℕ)))
    → says (map (λ (f : Bor (List ℕ)). f.now) fields) ≡ list_any (λ (f : Bor (List ℕ)). is_filled f.now) fields
says_any [] = refl
says_any (f ∷ fields) = ap (λ t. is_filled f.now || t) (says_any fields)

-- the rows of some records of a text, behind so many others
abbrev pub rows_from : FieldsForm → List ℕ → ℕ → List (List (List ℕ)) → List FieldRow
rows_from form text k records =
    filter (λ (r : FieldRow). says r.fields) (map (counted form) (lined (config_of form) text k records))

lined_append : (cfg : Config) (text : List ℕ) (k : ℕ) (xs ys : List (List (List ℕ)))
    → lined cfg text k (xs ++ ys) ≡ lined cfg text k xs ++ lined cfg text (k + length xs) ys
unfolding lined
lined_append cfg text k [] ys = ap (λ n. lined cfg text n ys) (omega arith)
lined_append cfg text k (r ∷ xs) ys =
    ap (λ rows. record { line = line_of text (behind cfg text k); fields = r } ∷ rows)
    (lined_append cfg text (suc k) xs ys ∙ ap (λ n. lined cfg text (suc k) xs ++ lined cfg text n ys) (omega arith))

rows_append : (form : FieldsForm) (text : List ℕ) (n : ℕ) (xs ys : List (List (List ℕ))) → length xs ≡ n
    → rows_from form text 0 (xs ++ ys) ≡ rows_from form text 0 xs ++ rows_from form text n ys
rows_append form text n xs ys size =
    let parts : lined (config_of form) text 0 (xs ++ ys) ≡ lined (config_of form) text 0 xs
    ++ lined (config_of form) text n ys =
    lined_append (config_of form) text 0 xs ys
    ∙ ap (λ m. lined (config_of form) text 0 xs ++ lined (config_of form) text m ys) (omega arith) in
    rw (
      parts,
      map-append (counted form) (lined (config_of form) text 0 xs) (lined (config_of form) text n ys),
      filter-append (λ (r : FieldRow). says r.fields) (map (counted form) (lined (config_of form) text 0 xs))
          (map (counted form) (lined (config_of form) text n ys)),
    ) refl

-- the rows of one record, which says something or does not
row_of_one : (form : FieldsForm) (text : List ℕ) (i : ℕ) (record_fields : List (List ℕ)) (row : FieldRow)
    → row.line ≡ line_of text (behind (config_of form) text i) → row.fields ≡ fields_in form record_fields
    → says row.fields ≡ true
    → rows_from form text i (record_fields ∷ []) ≡ row ∷ []
unfolding lined
row_of_one form text i r row line fields said =
    let says_so : says (fields_in form r) ≡ true = subst (λ fs. says fs ≡ true) fields said in
    rw says_so (ap (λ w. w ∷ []) (rw (sym line, sym fields) refl))

none_of_one : (form : FieldsForm) (text : List ℕ) (i : ℕ) (record_fields fields : List (List ℕ))
    → fields ≡ fields_in form record_fields → says fields ≡ false
    → rows_from form text i (record_fields ∷ []) ≡ []
unfolding lined
none_of_one form text i r fields same said =
    let says_so : says (fields_in form r) ≡ false = subst (λ fs. says fs ≡ false) same said in
    rw says_so refl

-- the rows of one record more
rows_in-take : (form : FieldsForm) (text : List ℕ) (records : List Record) (i : ℕ) (d : Record) → i < length records
    → rows_in form text (map fields_of (take (i + 1) records)) ≡ rows_in form text (map fields_of (take i records))
    ++ rows_from form text i (fields_of (get_or records i d) ∷ [])
rows_in-take form text records i d lt =
    let front : map fields_of (take (i + 1) records) ≡ map fields_of (take i records) ++ fields_of (get_or records i d)
    ∷ [] = rw (add-one i, take-suc records i d lt, map-append fields_of (take i records) (get_or records i d ∷ []))
    refl in
    let size : length (map fields_of (take i records)) ≡ i =
    length-map (take i records) fields_of ∙ length-take-le i records (omega arith) in
    ap (rows_in form text) front
    ∙ rows_append form text i (map fields_of (take i records)) (fields_of (get_or records i d) ∷ []) size

-- one row more that says something, and one that does not
pub row_said : (form : FieldsForm) (text : List ℕ) (records : List Record) (i : ℕ) (d : Record) (row : FieldRow)
    → i < length records
    → row.line ≡ line_of text (behind (config_of form) text i)
    → row.fields ≡ fields_in form (fields_of (get_or records i d)) → says row.fields ≡ true
    → rows_in form text (map fields_of (take (i + 1) records)) ≡ rows_in form text (map fields_of (take i records))
    ++ row ∷ []
row_said form text records i d row lt line e said =
    rows_in-take form text records i d lt
    ∙ rw (row_of_one form text i (fields_of (get_or records i d)) row line e said) refl

pub row_blank : (form : FieldsForm) (text : List ℕ) (records : List Record) (i : ℕ) (d : Record)
    (fields : List (List ℕ)) → i < length records
    → fields ≡ fields_in form (fields_of (get_or records i d)) → says fields ≡ false
    → rows_in form text (map fields_of (take (i + 1) records)) ≡ rows_in form text (map fields_of (take i records))
row_blank form text records i d fields lt e said =
    rows_in-take form text records i d lt
    ∙ rw (none_of_one form text i (fields_of (get_or records i d)) fields e said) (append-nil _)

-- the rows of all records, around one that says something
pub rows_around : (form : FieldsForm) (text : List ℕ) (records : List Record) (i : ℕ) (d : Record) (row : FieldRow)
    → i < length records
    → row.line ≡ line_of text (behind (config_of form) text i)
    → row.fields ≡ fields_in form (fields_of (get_or records i d)) → says row.fields ≡ true
    → rows_in form text (map fields_of records) ≡ rows_in form text (map fields_of (take i records)) ++ row
    ∷ rows_from form text (i + 1) (map fields_of (drop (i + 1) records))
rows_around form text records i d row lt line e said =
    let size : length (map fields_of (take (i + 1) records)) ≡ i + 1 =
    length-map (take (i + 1) records) fields_of ∙ length-take-le (i + 1) records (omega arith) in
    let parts : map fields_of records ≡ map fields_of (take (i + 1) records) ++ map fields_of (drop (i + 1) records) =
    ap (map fields_of) (sym (take-append-drop (i + 1) records))
    ∙ map-append fields_of (take (i + 1) records) (drop (i + 1) records) in
    let whole : rows_in form text (map fields_of records) ≡ rows_in form text (map fields_of (take (i + 1) records))
    ++ rows_from form text (i + 1) (map fields_of (drop (i + 1) records)) =
    ap (rows_in form text) parts
    ∙ rows_append form text (i + 1) (map fields_of (take (i + 1) records))
    (map fields_of (drop (i + 1) records)) size in
    whole ∙ rw (row_said form text records i d row lt line e said)
    (append_assoc (rows_in form text (map fields_of (take i records))) (row ∷ [])
    (rows_from form text (i + 1) (map fields_of (drop (i + 1) records))))
