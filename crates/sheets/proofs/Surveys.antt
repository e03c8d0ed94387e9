-- Surveying the table of a sheet.
use Rattle.std.proofs.Common.{◌≡◌, ℕ, ◌≤◌, ltb}
use Rattle.std.proofs.lemmas.Bool.{le-ltb}
use Rattle.rows.specs.declared.refusals.Refusal.TheVariants.{ShortList}
use Rattle.rows.specs.Answers.{gives, checked}
use Rattle.rows.proofs.Checks.{passes_on}
use Rattle.findings.specs.Asking.{list_checks}

-- where a list has a place for each row, nothing is wrong with it
pub list_passes : {A : Type 0} (rows places : ℕ) (x : A) → rows ≤ places → checked (list_checks rows places) x ≡ gives x
list_passes rows places x room = passes_on (ltb places rows) ShortList 0 (gives x) (le-ltb places rows room)
