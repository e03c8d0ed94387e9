-- The first bytes that a reader holds, which a call that fills a buffer has read: as many as the buffer has places, or
-- all of them.
use Rattle.std.proofs.Common.{◌≡◌, ℕ, ◌<◌, ◌≤◌, List, [], ◌++◌, length, take, Option, None, Some, IfSome, inl, inr}
use Rattle.std.proofs.Common.{refl, sym, subst, arith}
use Rattle.std.proofs.lemmas.Bool.{cases_lt}
use Rattle.std.proofs.lemmas.List.{append-nil, take_all, take_at, length-take-le}
use Rattle.std.specs.Io.KnownBytes.{Consumes, IsAtEnd}
use Rattle.streams.specs.Held.{MayHold}

-- bytes that are no longer are the first of themselves
first_of_itself : (size : ℕ) (front : List ℕ) → length front ≤ size → front ≡ take size front
first_of_itself size front few = sym (take_all size front few)

-- bytes no longer than a size are the first so many of all, if none follows them where they are shorter
first_of_all : (size : ℕ) (front rest : List ℕ) → length front ≤ size → (length front < size → rest ≡ [])
    → front ≡ take size (front ++ rest)
first_of_all size front rest few end = elim (cases_lt (length front) size) [
  | inl h ↦ (let none = end h in rw (none, append-nil front) (first_of_itself size front few))
  | inr h ↦ sym (take_at front rest size (omega arith))
]

-- bytes that a reader gave are the first of some that it may have held
first_of_held : (size : ℕ) (front : List ℕ) → length front ≤ size → (held left : Option (List ℕ))
    → Consumes held left front → (length front < size → IsAtEnd left)
    → (all : List ℕ) × MayHold held all × (front ≡ take size all)
first_of_held size front few None left taken end = (front, tt, first_of_itself size front few)
first_of_held size front few (Some xs) None taken end = absurd taken
first_of_held size front few (Some xs) (Some ys) taken end = (xs, refl, rw taken (first_of_all size front ys few end))

-- a reader that is known to have held some bytes has given the first of them
Consumes-first : (size : ℕ) (front : List ℕ) → length front ≤ size → (held left : Option (List ℕ))
    → Consumes held left front → (length front < size → IsAtEnd left)
    → IfSome held (λ bytes. Consumes held left (take size bytes))
Consumes-first size front few None left taken end = tt
Consumes-first size front few (Some xs) None taken end = absurd taken
Consumes-first size front few (Some xs) (Some ys) taken end =
    let first : front ≡ take size xs = rw taken (first_of_all size front ys few end) in
    subst (λ (l : List ℕ). xs ≡ l ++ ys) first taken

module _ (size count : ℕ) (buffer : List ℕ) (long : length buffer ≡ size) (within : count ≤ length buffer)
    (held left : Option (List ℕ)) (taken : Consumes held left (take count buffer))
    (end : count < length buffer → IsAtEnd left) where
  len : length (take count buffer) ≡ count
  len = length-take-le count buffer within

  -- what stands in front in the buffer are the first of some bytes that the reader may have held
  pub filled_first : (all : List ℕ) × MayHold held all × (take count buffer ≡ take size all)
  filled_first =
      first_of_held size (take count buffer) (omega (arith, len)) held left taken (λ h. end (omega (arith, len)))

  -- a reader that is known to have held some bytes has given the first of them
  pub filled_known : IfSome held (λ bytes. Consumes held left (take size bytes))
  filled_known =
      Consumes-first size (take count buffer) (omega (arith, len)) held left taken (λ h. end (omega (arith, len)))
