-- What a failure tells.
use Rattle.std.specs.Prelude.{Bool, true, false}
use Rattle.std.specs.IoError.{error_kind}
use Rattle.std.specs.declared.io.ErrorKind.{ErrorKind}
use Rattle.streams.specs.declared.failures.Failure.{Failure}
use Rattle.streams.specs.declared.failures.Failure.TheVariants.{Reading, Writing}

-- whether a read went wrong, and the kind of its error
abbrev pub told_of : Failure → Bool × ErrorKind
told_of (Reading error) = (true, error_kind error)
told_of (Writing error) = (false, error_kind error)
