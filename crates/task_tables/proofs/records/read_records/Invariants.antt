use Rattle.std.proofs.Common.{◌≡◌, ◌<◌, ℕ, List, Some, map}
use Rattle.csv.specs.Reading.{Reached, Ready, source_of, strip_bom}
use Rattle.csv.specs.Records.{fields_of}
use Rattle.csv.specs.declared.parser.State.TheVariants as st
use Rattle.csv.specs.declared.reader.Trim.TheVariants as trim
use Rattle.task_tables.specs.Forms.{config_of}
use Rattle.task_tables.proofs.records.read_records.Given as goal

abbrev pub invariant-loop-row : goal.invariant-loop-row
invariant-loop-row l =
    record {
      plain : l.row-iterator.rdr.trim ≡ trim.None;
      ready : Ready l.row-iterator.rdr;
      turns : 0 < l.row-iterator.left;
      config : l.row-iterator.rdr.config ≡ config_of l.fn.form;
      reached : (y : List ℕ) × (source_of (λ s. Some s.now) l.row-iterator.rdr ≡ Some y)
          × Reached (config_of l.fn.form) st.StartRecord (strip_bom l.fn.text)
          (map fields_of l.rows.items) l.row-iterator.rdr.state y;
    }
