-- A breach as a person reads it.
use Rattle.std.specs.Prelude.{ℕ, ◌+◌, List, ◌++◌, codes, decimal}
use Rattle.trials.specs.declared.breaches.Breach.{Breach}
use Rattle.trials.specs.declared.breaches.Broken.{Broken}
use Rattle.trials.specs.declared.breaches.Broken.TheVariants.{Covers, Close, Bends}

-- the law that fails
abbrev pub shown_law : Broken → List ℕ
shown_law (Covers amount exact) = codes "covers"
shown_law (Close accuracy amount exact) = codes "close"
shown_law (Bends before here next) = codes "bends"

-- the numbers by which it does
abbrev pub shown_numbers : Broken → List ℕ
shown_numbers (Covers amount exact) = decimal amount ++ (codes " < " ++ decimal exact)
shown_numbers (Close accuracy amount exact) =
    decimal accuracy ++ (codes " * " ++ (decimal amount ++ (codes " > " ++ (decimal (accuracy + 1)
    ++ (codes " * " ++ decimal exact)))))
shown_numbers (Bends before here next) =
    decimal before ++ (codes " + " ++ (decimal next ++ (codes " > 2 * " ++ decimal here)))

-- a breach: the law, the frame, the row and the instant, and the numbers
abbrev pub shown_breach : Breach → List ℕ
shown_breach b =
    shown_law b.broken
    ++ (codes " fails: frame " ++ (decimal b.frame
    ++ (codes ", C " ++ (decimal b.row.work
    ++ (codes ", T " ++ (decimal b.row.period
    ++ (codes ", J " ++ (decimal b.row.jitter
    ++ (codes ", t " ++ (decimal b.at ++ (codes ": " ++ shown_numbers b.broken)))))))))))
