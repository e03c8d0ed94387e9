-- What some bytes that are read and played leave.
use Rattle.std.specs.Prelude.{◌≡◌, ℕ, List, Option}
use Rattle.std.specs.Io.KnownBytes.{Appends, Consumes, Keeps}
use Rattle.streams.specs.declared.failures.Failure.{Failure}
use Rattle.streams.specs.declared.failures.Failure.TheVariants.{Reading, Writing}
use Rattle.scripts.specs.PlayState.{PlayState, after_bytes, written_for_bytes, written_last}
use Rattle.scripts.specs.Written.{Begun}

-- some bytes were read, and played from one progress to another
pub record PlayedOn (p q : PlayState) (held left old new : Option (List ℕ)) : Type 0 where
  pub bytes : List ℕ
  pub read : Consumes held left bytes
  pub played : q ≡ after_bytes p bytes
  pub written : Appends old new (written_for_bytes p bytes)

-- nothing was read, where reading failed; and where writing failed, what was read is answered in part
abbrev pub FailsBlock : Failure → PlayState → (held left old new : Option (List ℕ)) → Type 0
FailsBlock (Reading e) p held left old new = Keeps held left × Keeps old new
FailsBlock (Writing e) p held left old new =
    (bytes : List ℕ) × Consumes held left bytes × Begun old new (written_for_bytes p bytes)

-- writing failed, and the line that the end of the input ends is answered in part
abbrev pub FailsEnd : Failure → PlayState → (old new : Option (List ℕ)) → Type 0
FailsEnd (Reading e) p old new = ⊥
FailsEnd (Writing e) p old new = Begun old new (written_last p)
