-- Bytes put in front into a buffer.
use Rattle.std.proofs.Common.{◌≡◌, ℕ, ◌+◌, ◌≤◌, List, length, take, Ok, Err, Result, ap₂, ◌∙◌, arith}
use Rattle.std.specs.Prelude.{IfOk, IsOkAnd}
use Rattle.std.proofs.lemmas.Bool.{le-ltb}
use Rattle.rows.specs.declared.refusals.Refusal.TheVariants.{ShortBuffer}
use Rattle.rows.specs.declared.refusals.Fault.{Fault}
use Rattle.rows.specs.Answers.{gives}
use Rattle.rows.specs.Lists.{written}
use Rattle.rows.proofs.Checks.{given_is, passes_on}
use Rattle.leaves.specs.Contents.{Contents, encoding, IsLawful}
use Rattle.writing.proofs.Leaves.{encoding_length}
use Rattle.writing.proofs.Written.{take_written}
use Rattle.sheets.specs.Answers.{IsPut, buffer_checks}

-- the first places of a buffer that was written from the first on are what was written
written_first : (old new bytes : List ℕ) (n : ℕ) → n ≡ length bytes → new ≡ written old 0 bytes → take n new ≡ bytes
written_first old new bytes n count filled =
    let upto : n ≡ 0 + length bytes = omega (arith, count) in
    ap₂ take upto filled ∙ take_written old 0 (omega arith) bytes

-- a leaf has room in a buffer for every one
leaf_fits : (c : Contents) (old : List ℕ) → IsLawful c → length old ≡ 844 → length (encoding c) ≤ length old
leaf_fits c old lawful size = omega (arith, encoding_length c lawful, lawful.few, size)

-- a leaf is put into a buffer with room for every one
pub put_fits : (c : Contents) (old new : List ℕ) (r : Result ℕ Fault) → IsLawful c → length old ≡ 844
    → length new ≡ length old → IsPut (gives c) old new r → IsOkAnd r (λ n. n ≤ length new)
put_fits c old new (Ok n) lawful size even put =
    let count : n ≡ length (encoding c) =
    given_is (buffer_checks (gives c) (length old)) n (length (encoding c)) put.told in
    omega (arith, count, even, leaf_fits c old lawful size)
put_fits c old new (Err e) lawful size even put =
    let room = passes_on _ ShortBuffer 0 (gives (length (encoding c)))
    (le-ltb (length old) (length (encoding c)) (leaf_fits c old lawful size)) in
    absurd (cc (put.told ∙ room))

-- the bytes of a leaf that was put stand in front in the buffer
pub put_copied : (c : Contents) (old new items : List ℕ) (r : Result ℕ Fault) → IsOkAnd r (λ n. n ≤ length new)
    → IsPut (gives c) old new r → IfOk r (λ n. items ≡ take n new) → items ≡ encoding c
put_copied c old new items (Ok n) fits put copied =
    copied ∙ written_first old new (encoding c) n
    (given_is (buffer_checks (gives c) (length old)) n (length (encoding c)) put.told) put.bytes
put_copied c old new items (Err e) fits put copied = absurd fits
