-- A row that stands on a bench, exchanged for another one.
use Rattle.std.specs.Prelude.{ℕ, ◌-◌, List, ◌∷◌, [], ◌++◌, length, take, drop}
use Rattle.rows.specs.declared.tasks.Numbers.{Numbers}
use Rattle.rows.specs.Answers.{Check}
use Rattle.rows.specs.Books.{Book, book}
use Rattle.rows.specs.Judging.{rows_of}
use Rattle.rows.specs.Ranks.{rank_checks}
use Rattle.bounds.specs.Meaning.{Meaning}
use Rattle.admission.specs.declared.calls.Call.TheVariants.{Admit}
use Rattle.admission.specs.Books.{checks_of, without}

-- a book with the row at a rank exchanged for the row of four numbers: those before and after it stay in their ranks
abbrev pub exchanged : ℕ → Numbers → Book → Book
exchanged rank n b = book b.frame (take (rank - 1) b.rows ++ (rows_of (n ∷ []) ++ drop rank b.rows))

-- what is checked of an exchange on a book, in order: that a row stands at the rank, and then what is checked of the
-- admission of the new row on the book without the old one
abbrev pub exchange_checks : Meaning → Book → ℕ → Numbers → List Check
exchange_checks m b rank n =
    rank_checks (length b.rows) rank ++ checks_of m (book b.frame (without rank b.rows)) (Admit rank n)
