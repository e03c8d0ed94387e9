-- How a view fails.
use Rattle.std.proofs.Common.{◌≡◌, ℕ, ◌≤◌, true, false, List, length, take, Ok, Err, Result, Some, None, Option, refl}
use Rattle.std.specs.Prelude.{IfErr, OnErr, OnOk}
use Rattle.std.specs.Io.KnownBytes.{Appends, Keeps}
use Rattle.views.specs.declared.troubles.Trouble.{Trouble}
use Rattle.views.specs.Troubles.{Fails, IsTroubleOf, Subject, Writes, is_output}

-- known bytes that nothing was done to stay as they were
pub keeps_same : (old : Option (List ℕ)) → Keeps old old
keeps_same None = tt
keeps_same (Some xs) = refl

-- a view whose trouble is not one of writing fails before anything is written
pub fails_before : (IsView : List ℕ → Type 0) (of : Subject) (old : Option (List ℕ)) (t : Trouble) → IsTroubleOf of t
    → is_output t ≡ false → Fails IsView of old old t
fails_before IsView of old t is before = record {
  before = λ _. (is, keeps_same old);
  amid = λ amid. cc (before, amid);
}

-- or where its bytes are written
pub fails_amid : (IsView : List ℕ → Type 0) (of : Subject) (old new : Option (List ℕ)) (bytes : List ℕ) → IsView bytes
    → (r : Result (Unit {0}) Trouble) → IfErr r (λ t. is_output t ≡ true)
    → OnErr r ((n : ℕ) × (n ≤ length bytes) × Appends old new (take n bytes)) → IfErr r (λ t. Fails IsView of old new t)
fails_amid IsView of old new bytes is (Ok u) output begun = tt
fails_amid IsView of old new bytes is (Err t) output begun = record {
  before = λ before. cc (before, output);
  amid = λ _. (bytes, is, begun.0, begun.1, begun.2);
}

-- or all of them are
pub writes_all : (IsView : List ℕ → Type 0) (old new : Option (List ℕ)) (bytes : List ℕ) → IsView bytes
    → (r : Result (Unit {0}) Trouble) → OnOk r (Appends old new bytes) → OnOk r (Writes IsView old new)
writes_all IsView old new bytes is (Ok u) written = (bytes, is, written)
writes_all IsView old new bytes is (Err t) written = tt
