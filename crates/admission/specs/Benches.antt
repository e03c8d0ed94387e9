-- A bench as its caller sees it, and what every bench keeps.
use Rattle.std.specs.Prelude.{◌≡◌, List, map}
use Rattle.std.specs.List.{AllPass}
use Rattle.rows.specs.Books.{Book}
use Rattle.bounds.specs.Meaning.{Meaning}
use Rattle.rows.specs.Found.{Found, tells, is_met}
use Rattle.findings.specs.Tables.{findings_of}
use Rattle.admission.specs.declared.calls.Call.{Call}
use Rattle.admission.specs.declared.calls.Reply.{Reply}
use Rattle.admission.specs.declared.keeping.Kept.{Kept}
use Rattle.admission.specs.Books.{step}
use Rattle.admission.specs.Replies.{answer_of}

-- what a caller sees of a bench: its bound, its book, and the finding that it keeps for each row of the book
pub record Held (B : Type 0) : Type 0 where
  pub bound : B
  pub book : Book
  pub findings : List Found

-- a bench with a bound and a book, whose findings are those of a survey of the book's rows at its frame
abbrev pub bench : {B : Type 0} → Meaning → B → Book → Held B
bench m bound b = record { bound = bound; book = b; findings = findings_of m b.frame b.rows }

-- what is found about the rows of a table, in rank order
abbrev pub kept_findings : Kept → List Found
kept_findings k = map tells k.findings.items

-- the findings are those of a survey of the rows
abbrev pub IsCounted : Meaning → Kept → Type 0
IsCounted m k = kept_findings k ≡ findings_of m k.table.frame k.table.rows

-- what every bench keeps: its table is counted so, and every row meets
pub record Keeps (m : Meaning) (k : Kept) : Type 0 where
  pub counted : IsCounted m k
  pub meet : AllPass is_met (kept_findings k)

-- a call to a bench does what the same call does on its book: the bench has the same bound, the book afterwards and the
-- findings of its rows, and its reply is the book's answer
pub record Does {B : Type 0} (m : Meaning) (c : Call) (old new : Held B) (reply : Reply) : Type 0 where
  pub becomes : new ≡ bench m old.bound (step m old.book c).0
  pub replies : answer_of reply ≡ (step m old.book c).1
