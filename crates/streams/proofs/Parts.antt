-- The bytes read or written so far, and those of one read or write more.
use Rattle.std.proofs.Common.{◌≡◌, ℕ, ◌+◌, ◌-◌, ◌<◌, ◌≤◌, List, ◌++◌, length, take, drop, Option, refl, sym, subst, ◌∙◌}
use Rattle.std.proofs.Common.{arith}
use Rattle.std.proofs.KnownBytes.{Appends-trans, Consumes-trans, Consumes-kept}
use Rattle.std.proofs.lemmas.List.{take_at, drop_at, take-append-le, take_all, length-take-le, length-drop}
use Rattle.std.specs.Io.KnownBytes.{Appends, Consumes, Keeps}
use borrow.Rule.Slice.PartMut.{put_mid, post_of}
use lib.Seq.{take-add}

-- a buffer begins with what was read before and what is read behind it
pub take-read : (xs ys : List ℕ) (at k n : ℕ) → at ≤ length xs → n ≤ length ys
    → take (at + n) (put_mid at k xs ys) ≡ take at xs ++ take n ys
take-read xs ys at k n inside fits =
    let front = take at xs in
    let len : length front ≡ at = length-take-le at xs inside in
    let after = ys ++ post_of at k xs in
    take-add at n (front ++ after)
    ∙ (rw (take_at front after _ len, drop_at front after _ len, take-append-le n ys (post_of at k xs) fits) refl)

-- a reader has lost what it gave before and what it gives now
pub Consumes-more : (a b c : Option (List ℕ)) (xs ys : List ℕ) (at k n : ℕ) → at ≤ length xs → n ≤ length ys
    → Consumes a b (take at xs) → Consumes b c (take n ys) → Consumes a c (take (at + n) (put_mid at k xs ys))
Consumes-more a b c xs ys at k n inside fits before now =
    subst (Consumes a c) (sym (take-read xs ys at k n inside fits))
    (Consumes-trans a b c (take at xs) (take n ys) before now)

-- what a reader gave before a read that failed stands in front in the buffer, which has more places
pub lost_before : (a b c : Option (List ℕ)) (xs ys : List ℕ) (at k size : ℕ) → at ≤ length xs → at < size
    → Consumes a b (take at xs) → Keeps b c → (n : ℕ) × (n < size) × Consumes a c (take n (put_mid at k xs ys))
lost_before a b c xs ys at k size inside short before kept =
    let front : take at (put_mid at k xs ys) ≡ take at xs =
    take_at (take at xs) (ys ++ post_of at k xs) at (length-take-le at xs inside) in
    (at, short, subst (Consumes a c) (sym front) (Consumes-kept a b c (take at xs) before kept))

-- a writer has got what it got before and what it gets now, which is a beginning of what was left
pub Appends-more : (a b c : Option (List ℕ)) (xs : List ℕ) (at n : ℕ)
    → Appends a b (take at xs) → Appends b c (take n (take (length xs - at) (drop at xs)))
    → Appends a c (take (at + n) xs)
Appends-more a b c xs at n before now =
    let whole = take_all (length xs - at) (drop at xs) (omega (arith, length-drop at xs)) in
    rw (take-add at n xs) (Appends-trans a b c (take at xs) (take n (drop at xs)) before (rw whole at now))
