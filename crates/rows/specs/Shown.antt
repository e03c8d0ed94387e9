-- How a fault is written for a person.
use Rattle.std.specs.Prelude.{ℕ, List, ◌++◌, codes, decimal}
use Rattle.rows.specs.declared.refusals.Fault.{Fault}
use Rattle.rows.specs.Refusals.{number, words}

-- the bytes of "refusal 8, off frame, at 3"
abbrev pub shown_fault : Fault → List ℕ
shown_fault x =
    codes "refusal "
    ++ (decimal (number x.refusal) ++ (codes ", " ++ (words x.refusal ++ (codes ", at " ++ decimal x.at))))
