-- The rows of a text: what its records say, each with its line.
use Rattle.std.specs.Prelude.{ℕ, suc, List, [], ◌∷◌, map, filter}
use Rattle.std.specs.Borrow.{Bor}
use Rattle.csv.specs.declared.parser.Config.{Config}
use Rattle.task_tables.specs.declared.forms.FieldsForm.{FieldsForm}
use Rattle.task_tables.specs.Forms.{config_of, fields_in, says}
use Rattle.task_tables.specs.Lines.{behind, line_of}

-- the fields of a record that count, and the line on which it begins
pub record FieldRow : Type 0 where
  pub line : ℕ
  pub fields : List (List ℕ)

-- the row of some fields on a line
abbrev pub row_at : ℕ → List (Bor (List ℕ)) → FieldRow
row_at line fields = record { line = line; fields = map (λ f. f.now) fields }

-- the records of a text behind so many others, each with its line
unfoldable pub lined : Config → List ℕ → ℕ → List (List (List ℕ)) → List FieldRow
lined cfg text k [] = []
lined cfg text k (r ∷ rs) = record { line = line_of text (behind cfg text k); fields = r } ∷ lined cfg text (suc k) rs

-- the fields of a row that count
abbrev pub counted : FieldsForm → FieldRow → FieldRow
counted form row = record row { fields = fields_in form row.fields }

-- the rows of a text of some form: of each record that says something, the fields that count
abbrev pub rows_in : FieldsForm → List ℕ → List (List (List ℕ)) → List FieldRow
rows_in form text records = filter (λ r. says r.fields) (map (counted form) (lined (config_of form) text 0 records))
