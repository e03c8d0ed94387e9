-- Runs of entries: one entry more, where they lead, and that no bytes can be read in two ways.
use Rattle.std.proofs.Common.{◌≡◌, ℕ, ◌+◌, List, [], ◌∷◌, ◌++◌, length, sym, refl, ap, ◌∙◌, subst, ap₂, arith}
use Rattle.std.proofs.lemmas.List.{append_assoc, append-nil, length-append}
use Rattle.leaves.specs.declared.entries.Entry.{Entry}
use Rattle.leaves.specs.Entries.{entry_bytes}
use Rattle.leaves.specs.Contents.{bytes_of}
use Rattle.reading.specs.declared.phases.Phase.{Phase}
use Rattle.reading.specs.Grammar.{Step, Run, stays, goes}
use Rattle.reading.specs.Phases.{place_of, IsSound}
use Rattle.reading.proofs.Steps.{step_sound, step_place, step_once}

-- one entry more
pub run_push : {p q s : Phase} {e : Entry} {es : List Entry} → Run p es q → Step q e s → Run p (es ++ e ∷ []) s
run_push stays step = goes step stays
run_push (goes first run) step = goes first (run_push run step)

pub bytes_push : (es : List Entry) (e : Entry) (left : List ℕ)
    → bytes_of es ++ (entry_bytes e ++ left) ≡ bytes_of (es ++ e ∷ []) ++ left
bytes_push [] e left = ap (λ b. b ++ left) (sym (append-nil (entry_bytes e)))
bytes_push (x ∷ es) e left =
    append_assoc (entry_bytes x) (bytes_of es) (entry_bytes e ++ left)
    ∙ ap (λ b. entry_bytes x ++ b) (bytes_push es e left)
    ∙ sym (append_assoc (entry_bytes x) (bytes_of (es ++ e ∷ [])) left)

-- a reader after a run is sound, and placed after its bytes
pub run_sound : {p q : Phase} {es : List Entry} → Run p es q → IsSound p → IsSound q
run_sound stays sound = sound
run_sound (goes step run) sound = run_sound run (step_sound step sound)

pub run_place : {p q : Phase} {es : List Entry} → Run p es q → place_of p + length (bytes_of es) ≡ place_of q
run_place stays = omega arith
run_place (goes {e = e} {es = es} step run) =
    omega (arith, step_place step, run_place run, length-append (entry_bytes e) (bytes_of es))

-- no entry can come next in a phase from these bytes
abbrev pub IsStuck : Phase → List ℕ → Type 0
IsStuck p left = (e : Entry) (q : Phase) (more : List ℕ) → Step p e q → left ≡ entry_bytes e ++ more → ⊥

-- runs after which no entry can come next are one run
pub run_once : {p q s : Phase} {es fs : List Entry} → Run p es q → Run p fs s → IsSound p → (xs ys : List ℕ)
    → IsStuck q xs → IsStuck s ys → bytes_of es ++ xs ≡ bytes_of fs ++ ys
    → (es ≡ fs) × (q ≡ s) × (xs ≡ ys)
run_once stays stays sound xs ys stuck held same = (refl, refl, same)
run_once stays (goes {e = f} {es = fs} step run) sound xs ys stuck held same =
    absurd (stuck f _ (bytes_of fs ++ ys) step (same ∙ append_assoc (entry_bytes f) (bytes_of fs) ys))
run_once (goes {e = e} {es = es} step run) stays sound xs ys stuck held same =
    absurd (held e _ (bytes_of es ++ xs) step (sym same ∙ append_assoc (entry_bytes e) (bytes_of es) xs))
run_once (goes {q = q} {e = e} {es = es} step run)
    (goes {s = s} {e = f} {es = fs} other walk) sound xs ys stuck held same =
    let once = step_once step other sound (bytes_of es ++ xs) (bytes_of fs ++ ys)
    (sym (append_assoc (entry_bytes e) (bytes_of es) xs) ∙ same ∙ append_assoc (entry_bytes f) (bytes_of fs) ys) in
    let later = run_once run (subst (λ z. Run z fs s) (sym once.1) walk)
    (step_sound step sound) xs ys stuck held once.2 in
    (ap₂ ◌∷◌ once.0 later.0, later.1, later.2)
