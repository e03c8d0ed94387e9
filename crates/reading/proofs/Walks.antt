-- A reader on its way through a leaf, and where it stops.
use Rattle.std.proofs.Common.{◌≡◌, ℕ, true, false, List, [], ◌∷◌, ◌++◌, length, is_some, Option, Some, None, sym, refl}
use Rattle.std.proofs.Common.{ap, ◌∙◌, subst, arith}
use Rattle.std.proofs.lemmas.List.{append-nil}
use Rattle.std.proofs.lemmas.Bool.{false≢true}
use Rattle.rows.specs.declared.refusals.Refusal.{Refusal}
use Rattle.rows.specs.Answers.{gives, refuses, first_refusal}
use Rattle.leaves.specs.declared.entries.Entry.{Entry}
use Rattle.leaves.specs.Contents.{Contents, bytes_of}
use Rattle.reading.specs.declared.phases.Phase.{Phase}
use Rattle.reading.specs.declared.phases.Phase.TheVariants.{Opening, Rows, Findings, Closed}
use Rattle.reading.specs.Checks.{next_checks}
use Rattle.reading.specs.Grammar.{Run, stays}
use Rattle.reading.specs.Phases.{place_of, is_closed}
use Rattle.reading.specs.Stepping.{Reading, Takes}
use Rattle.reading.specs.Whole.{IsRefusedAt, Fits}
use Rattle.reading.proofs.Contents.{closing}
use Rattle.reading.proofs.Runs.{run_push, bytes_push, run_place}

-- a reader of the bytes has come here: a run leads from the opening to its phase, and its bytes stand before those left
pub record HasRead (bytes : List ℕ) (here : Reading) : Type 0 where
  pub before : List Entry
  pub split : bytes ≡ bytes_of before ++ here.left
  pub run : Run Opening before here.phase

-- a reader before the first byte has read nothing
pub read_none : (bytes : List ℕ) → HasRead bytes (record { phase = Opening; left = bytes })
read_none bytes = record { before = []; split = refl; run = stays }

module _ (bytes : List ℕ) (here next : Reading) (has : HasRead bytes here) where
  -- a reader that takes an entry has read one more
  pub read_more : (o : Option Entry) → is_some o ≡ true → Takes here o next → HasRead bytes next
  read_more None none taken = absurd (false≢true none)
  read_more (Some e) some taken = record {
    before = has.before ++ e ∷ [];
    split = has.split ∙ ap (λ xs. bytes_of has.before ++ xs) taken.split ∙ bytes_push has.before e next.left;
    run = run_push has.run taken.step;
  }

-- where a check refuses, the refusal fits
pub read_refused : (bytes : List ℕ) (here : Reading) → HasRead bytes here → (n : Refusal) (at : ℕ)
    → refuses n at ≡ first_refusal (next_checks here.phase (place_of here.phase) here.left) → IsRefusedAt bytes n at
read_refused bytes here has n at refused = record {
  before = has.before;
  phase = here.phase;
  left = here.left;
  split = has.split;
  run = has.run;
  fails = ap (λ p. first_refusal (next_checks here.phase p here.left)) (omega (arith, run_place has.run)) ∙ sym refused;
}

-- where nothing comes, contents fit, of which the phase tells the heading and the number of rows
pub record HasEnded (bytes : List ℕ) (p : Phase) : Type 0 where
  pub contents : Contents
  pub fits : Fits bytes (gives contents)
  pub closed : p ≡ Closed contents.heading (length contents.rows)

pub read_ended : (bytes : List ℕ) (here next : Reading) → HasRead bytes here → (o : Option Entry) → is_some o ≡ false
    → Takes here o next → HasEnded bytes next.phase
read_ended bytes here next has (Some e) none taken = absurd (false≢true (sym none))
read_ended bytes here next has None none taken =
    subst (λ r. HasEnded bytes r.phase) (sym taken.2) (at here.phase has.run taken.0)
  where
    at : (p : Phase) → Run Opening has.before p → is_closed p ≡ true → HasEnded bytes p
    at Opening run closed = absurd (false≢true closed)
    at (Rows h n) run closed = absurd (false≢true closed)
    at (Findings h n m) run closed = absurd (false≢true closed)
    at (Closed h n) run closed =
        let c = closing run in
        record {
          contents = c.contents;
          fits = (
            c.lawful,
            has.split ∙ ap (λ xs. bytes_of has.before ++ xs) taken.1 ∙ append-nil (bytes_of has.before)
                ∙ ap bytes_of c.same,
          );
          closed = c.closed;
        }
