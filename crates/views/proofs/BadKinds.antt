-- The first bound whose accuracy is bad.
use Rattle.std.proofs.Common.{◌≡◌, ℕ, zero, suc, ◌+◌, ◌<◌, Bool, true, false, not, List, [], ◌∷◌, ◌++◌, length, get_or}
use Rattle.std.proofs.Common.{take, Some, None, Option, Ok, Err, Result, refl, subst, arith, if◌then◌else◌}
use Rattle.std.specs.Prelude.{is_some}
use Rattle.std.specs.Result.{is_err}
use Rattle.rows.specs.declared.frames.FrameNumbers.{FrameNumbers}
use Rattle.rows.specs.declared.refusals.Fault.{Fault}
use Rattle.rows.specs.declared.refusals.Refusal.{Refusal}
use Rattle.rows.specs.declared.refusals.Refusal.TheVariants as no
use Rattle.rows.specs.declared.tasks.Numbers.{Numbers}
use Rattle.rows.specs.Answers.{Answer, answer, checked, first_refusal, gives, refuses, refuses_at}
use Rattle.bounds.specs.declared.families.Family.{Family}
use Rattle.bounds.specs.declared.supplied.Supplied.{Supplied}
use Rattle.bounds.specs.Families.{can_have, family_accuracy_checks, supplied_plain}
use Rattle.filings.specs.Checks.{bound_checks, filing_checks, table_checks}
use Rattle.views.specs.Troubles.{bad_kind}

-- a refusal that is not a check's own is one of the checks behind it
skips : {A : Type 0} (m n : Refusal) (at : ℕ) (place : Option ℕ) (others : Answer A) → (m ≡ n → ⊥)
    → refuses n at ≡ refuses_at m place others → refuses n at ≡ others
skips m n at (Some p) others other is = absurd (other cc)
skips m n at None others other is = is

-- no answer is given and refused
clash : (n : Refusal) (at : ℕ) (u : Unit {0}) → refuses n at ≡ gives u → ⊥
clash n at u is = cc

-- no check of a table tells a bad accuracy
no_accuracy : (frame : Option FrameNumbers) (ns : List Numbers) (at : ℕ)
    → refuses no.BadAccuracy at ≡ first_refusal (table_checks frame ns) → ⊥
no_accuracy (Some h) ns at is =
    let idle = skips no.FullTable no.BadAccuracy at _ _ (λ e. cc) is in
    let window = skips no.IdleRow no.BadAccuracy at _ _ (λ e. cc) idle in
    let late = skips no.NoWindow no.BadAccuracy at _ _ (λ e. cc) window in
    let long = skips no.LateDeadline no.BadAccuracy at _ _ (λ e. cc) late in
    let off = skips no.LongPeriod no.BadAccuracy at _ _ (λ e. cc) long in
    clash no.BadAccuracy at tt (skips no.OffFrame no.BadAccuracy at _ _ (λ e. cc) off)
no_accuracy None ns at is =
    let idle = skips no.FullTable no.BadAccuracy at _ _ (λ e. cc) is in
    let window = skips no.IdleRow no.BadAccuracy at _ _ (λ e. cc) idle in
    let late = skips no.NoWindow no.BadAccuracy at _ _ (λ e. cc) window in
    let long = skips no.LateDeadline no.BadAccuracy at _ _ (λ e. cc) late in
    let frame = skips no.LongPeriod no.BadAccuracy at _ _ (λ e. cc) long in
    clash no.BadAccuracy at tt (skips no.BadFrame no.BadAccuracy at _ _ (λ e. cc) frame)

-- where one is told behind the checks of the frame, some bound that is named has it
bad_named : (frame : Option FrameNumbers) (bounds : List (Family × ℕ)) (ns : List Numbers) (at : ℕ)
    → refuses no.BadAccuracy at ≡ first_refusal (bound_checks bounds ++ table_checks frame ns)
    → is_some (bad_kind bounds) ≡ true
bad_named frame [] ns at is = absurd (no_accuracy frame ns at is)
bad_named frame (b ∷ bounds) ns at is = by (can_have b.0 b.1) (bad_named frame bounds ns at) is
  where
    by : (had : Bool)
        → (refuses no.BadAccuracy at ≡ first_refusal (bound_checks bounds ++ table_checks frame ns)
        → is_some (bad_kind bounds) ≡ true)
        → refuses no.BadAccuracy at ≡ refuses_at no.BadAccuracy (if not had then Some 0 else None)
        (first_refusal (bound_checks bounds ++ table_checks frame ns))
        → is_some (if had then bad_kind bounds else Some b.0) ≡ true
    by true later is = later is
    by false later is = refl

-- and so it is where one is told of all
pub accuracy_bad : (frame : Option FrameNumbers) (bounds : List (Family × ℕ)) (ns : List Numbers) (refusal : Refusal)
    (at : ℕ) → refuses refusal at ≡ first_refusal (filing_checks frame bounds ns) → refusal ≡ no.BadAccuracy
    → is_some (bad_kind bounds) ≡ true
accuracy_bad frame bounds ns refusal at is bad =
    by frame (subst (λ n. refuses n at ≡ first_refusal (filing_checks frame bounds ns)) bad is)
  where
    by : (frame : Option FrameNumbers) → refuses no.BadAccuracy at ≡ first_refusal (filing_checks frame bounds ns)
        → is_some (bad_kind bounds) ≡ true
    by None is = bad_named None bounds ns at is
    by (Some h) is =
        bad_named (Some h) bounds ns at (skips no.BadFrame no.BadAccuracy at _ _ (λ e. cc) is)

-- a bound is not made exactly where its kind cannot have the accuracy
pub is_made : (f : Family) (k : ℕ) (made : Result Supplied Fault)
    → answer supplied_plain made ≡ checked (family_accuracy_checks f k) (f, k) → is_err made ≡ not (can_have f k)
is_made f k made answered = by (can_have f k) made answered
  where
    by : (had : Bool) (made : Result Supplied Fault)
        → answer supplied_plain made
        ≡ refuses_at no.BadAccuracy (if not had then Some 0 else None) (gives (f, k)) → is_err made ≡ not had
    by true (Ok b) answered = refl
    by true (Err e) answered = cc
    by false (Ok b) answered = cc
    by false (Err e) answered = refl

-- where the bounds before one are made and that one is not, its kind is told
pub bad_first : (bounds : List (Family × ℕ)) (i : ℕ) (d : Family × ℕ) → i < length bounds
    → bad_kind (take i bounds) ≡ None → not (can_have (get_or bounds i d).0 (get_or bounds i d).1) ≡ true
    → bad_kind bounds ≡ Some (get_or bounds i d).0
bad_first [] i d within before bad = absurd (omega (arith, within))
bad_first (b ∷ bounds) zero d within before bad = by (can_have b.0 b.1) bad
  where
    by : (had : Bool) → not had ≡ true → (if had then bad_kind bounds else Some b.0) ≡ Some b.0
    by true bad = cc
    by false bad = refl
bad_first (b ∷ bounds) (suc i) d within before bad =
    by (can_have b.0 b.1) (λ earlier. bad_first bounds i d (omega (arith, within)) earlier bad) before
  where
    by : (had : Bool) → (bad_kind (take i bounds) ≡ None → bad_kind bounds ≡ Some (get_or bounds i d).0)
        → (if had then bad_kind (take i bounds) else Some b.0) ≡ None
        → (if had then bad_kind bounds else Some b.0) ≡ Some (get_or bounds i d).0
    by true later before = later before
    by false later before = cc

-- where it is made too, none up to it is bad
none_more : (bounds : List (Family × ℕ)) (i : ℕ) (d : Family × ℕ) → i < length bounds
    → bad_kind (take i bounds) ≡ None → not (can_have (get_or bounds i d).0 (get_or bounds i d).1) ≡ false
    → bad_kind (take (suc i) bounds) ≡ None
none_more [] i d within before made = absurd (omega (arith, within))
none_more (b ∷ bounds) zero d within before made = by (can_have b.0 b.1) made
  where
    by : (had : Bool) → not had ≡ false → (if had then bad_kind [] else Some b.0) ≡ None
    by true made = refl
    by false made = cc
none_more (b ∷ bounds) (suc i) d within before made =
    by (can_have b.0 b.1) (λ earlier. none_more bounds i d (omega (arith, within)) earlier made) before
  where
    by : (had : Bool) → (bad_kind (take i bounds) ≡ None → bad_kind (take (suc i) bounds) ≡ None)
        → (if had then bad_kind (take i bounds) else Some b.0) ≡ None
        → (if had then bad_kind (take (suc i) bounds) else Some b.0) ≡ None
    by true later before = later before
    by false later before = cc

-- the same, counted
pub none_bad : (bounds : List (Family × ℕ)) (i : ℕ) (d : Family × ℕ) → i < length bounds
    → bad_kind (take i bounds) ≡ None → not (can_have (get_or bounds i d).0 (get_or bounds i d).1) ≡ false
    → bad_kind (take (i + 1) bounds) ≡ None
none_bad bounds i d within before made =
    let up : suc i ≡ i + 1 = omega arith in
    subst (λ n. bad_kind (take n bounds) ≡ None) up (none_more bounds i d within before made)
