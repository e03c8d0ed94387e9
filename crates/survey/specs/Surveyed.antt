-- What a survey of what a reader holds has read, and what a writer has got where it has failed.
use Rattle.std.specs.Prelude.{ℕ, ◌<◌, List, Option, length, take, Ok, Err, Result, IfSome}
use Rattle.std.specs.Io.KnownBytes.{Appends, Consumes, Keeps}
use Rattle.streams.specs.declared.failures.Failure.{Failure}
use Rattle.streams.specs.declared.failures.Failure.TheVariants.{Reading, Writing}
use Rattle.sheets.specs.Answers.{deciding}
use Rattle.survey.specs.Answering.{IsAnswerToHeld}

-- nothing, where reading failed; and where writing failed, the first bytes of the answer and nothing else
abbrev pub HasGot : Failure → (held old new : Option (List ℕ)) → Type 0
HasGot (Reading e) held old new = Keeps old new
HasGot (Writing e) held old new =
    (out : List ℕ) × (n : ℕ) × IsAnswerToHeld held out × Appends old new (take n out)

-- the bytes that decide, where those of the reader are known: whether the answer was written or not; and fewer bytes,
-- where reading failed
abbrev pub HasRead : Result (Unit {0}) Failure → (held left : Option (List ℕ)) → Type 0
HasRead (Ok done) held left = IfSome held (λ bytes. Consumes held left (take deciding bytes))
HasRead (Err (Writing e)) held left = IfSome held (λ bytes. Consumes held left (take deciding bytes))
HasRead (Err (Reading e)) held left = (lost : List ℕ) × (length lost < deciding) × Consumes held left lost
