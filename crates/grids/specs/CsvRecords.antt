-- What a writer of CSV has written.
use Rattle.std.specs.Prelude.{◌≡◌, ℕ, false, List, [], ◌∷◌, ◌++◌}
use Rattle.csv.specs.Writing.{default_writer, fields_written, has_written, row_text, writer_setup}
use Rattle.csv.specs.declared.writer.Writer.{Writer}

-- a writer with the crate's defaults that is in no record
pub record IsFresh {W : Type 0} (writer : Writer W) : Type 0 where
  pub setup : writer_setup writer ≡ default_writer
  pub fields : fields_written writer ≡ 0
  pub wrote : has_written writer ≡ false

-- the text of records, one after the other
abbrev pub rows_text : List (List (List ℕ)) → List ℕ
rows_text [] = []
rows_text (fields ∷ rest) = row_text default_writer fields ++ rows_text rest
