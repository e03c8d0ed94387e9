-- Beginnings of what is written.
use Rattle.std.proofs.Common.{◌≡◌, ℕ, ◌+◌, ◌<◌, List, ◌++◌, length, take, Option, Result, Ok, Err, OnOk, OnErr, sym}
use Rattle.std.proofs.Common.{subst, arith, length-append}
use Rattle.std.proofs.KnownBytes.{Appends-trans, Appends-kept}
use Rattle.std.proofs.lemmas.List.{take-append-le}
use Rattle.std.specs.Io.KnownBytes.{Appends, Keeps}
use Rattle.scripts.specs.Written.{Begun}
use lib.Seq.{take-append-add, take-length}

-- all is a beginning
pub Begun-all : (a b : Option (List ℕ)) (bytes : List ℕ) → Appends a b bytes → Begun a b bytes
Begun-all a b bytes put =
    record { count = length bytes; within = omega arith; got = subst (Appends a b) (sym (take-length bytes)) put }

-- a beginning of some bytes is one of these with others behind them
pub Begun-longer : (a b : Option (List ℕ)) (bytes rest : List ℕ) → Begun a b bytes → Begun a b (bytes ++ rest)
Begun-longer a b bytes rest begun = record {
  count = begun.count;
  within = omega (arith, begun.within, length-append bytes rest);
  got = subst (Appends a b) (sym (take-append-le begun.count bytes rest begun.within)) begun.got;
}

-- a beginning of bytes, with others in front that were written before it, is one of both
pub Begun-after : (a b c : Option (List ℕ)) (front bytes : List ℕ) → Appends a b front → Begun b c bytes
    → Begun a c (front ++ bytes)
Begun-after a b c front bytes put begun = record {
  count = length front + begun.count;
  within = omega (arith, begun.within, length-append front bytes);
  got = subst (Appends a c) (sym (take-append-add front bytes begun.count))
      (Appends-trans a b c front (take begun.count bytes) put begun.got);
}

-- what a failed call has begun is a beginning of bytes that are the same
pub Begun-same : {E : Type 0} (r : Result (Unit {0}) E) (a b : Option (List ℕ)) (bytes text : List ℕ) → bytes ≡ text
    → OnErr r ((n : ℕ) × (n < length bytes) × Appends a b (take n bytes)) → OnErr r (Begun a b text)
Begun-same (Ok u) a b bytes text same begun = tt
Begun-same (Err e) a b bytes text same begun =
    subst (Begun a b) same (record { count = begun.0; within = omega (arith, begun.1); got = begun.2 })

-- what is written stays where the writer is flushed
pub flushed : {E : Type 0} (r : Result (Unit {0}) E) (a b c : Option (List ℕ)) (bytes : List ℕ) → Appends a b bytes
    → Keeps b c
    → OnOk r (Appends a c bytes)
flushed (Ok u) a b c bytes put kept = Appends-kept a b c bytes put kept
flushed (Err e) a b c bytes put kept = tt

pub Begun-flushed : {E : Type 0} (r : Result (Unit {0}) E) (a b c : Option (List ℕ)) (bytes : List ℕ)
    → Appends a b bytes → Keeps b c
    → OnErr r (Begun a c bytes)
Begun-flushed (Ok u) a b c bytes put kept = tt
Begun-flushed (Err e) a b c bytes put kept = Begun-all a c bytes (Appends-kept a b c bytes put kept)
