-- How an error is written for a person.
use Rattle.std.specs.Prelude.{ℕ, List, ◌++◌, codes, decimal}
use Rattle.rows.specs.Shown.{shown_fault}
use Rattle.batches.specs.declared.errors.BatchError.{BatchError}
use Rattle.batches.specs.declared.errors.BatchError.TheVariants.{Refused, BadSize}

-- the bytes of a fault, or of "no batch has 0 jobs"
abbrev pub shown_error : BatchError → List ℕ
shown_error (Refused fault) = shown_fault fault
shown_error (BadSize size) = codes "no batch has " ++ (decimal size ++ codes " jobs")
