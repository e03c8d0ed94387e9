-- Lines whose bytes are blanks and what is printed: they hold no line feed and no carriage return.
use Rattle.std.proofs.Common.{◌≡◌, ℕ, zero, suc, ◌+◌, ◌-◌, ◌%◌, ◌<◌, ◌≤◌, ◌^◌, ◌==◌, Bool, true, false, cond, List, []}
use Rattle.std.proofs.Common.{◌∷◌, ◌++◌, length, map, take, get_or, refl, sym, ap, ◌∙◌, arith, append-nil, append_assoc}
use Rattle.std.specs.Prelude.{decimal}
use Rattle.std.specs.List.{AllByRecursion}
use Rattle.std.proofs.lemmas.Bool.{ne_eqb}
use Rattle.std.proofs.lemmas.Fmt.{decimal_by_steps}
use Rattle.rows.specs.declared.tasks.Numbers.{Numbers}
use Rattle.bounds.specs.declared.families.Family.{Family}
use Rattle.bounds.specs.Families.{family_word, has_accuracies}
use Rattle.admission.specs.declared.calls.Call.{Call}
use Rattle.admission.specs.declared.calls.Call.TheVariants.{Frame, Admit, Dismiss, Inquire}
use Rattle.scripts.specs.Scripts.{line_feed, carriage_return, without_return, begun_after, ended_lines, last_line}
use Rattle.scripts.specs.Scripts.{script_lines}
use Rattle.scripts.specs.Runs.{as_lines}
use Rattle.scripts.specs.Texts.{bound_text, call_text, numbers_text, FitsBound, FitsLine, FitNumbers}
use Rattle.scripts.proofs.WordsOfBounds.{InWord, names_well}

abbrev pub Plain : List ℕ → Type 0
Plain line = AllByRecursion (λ b. 32 ≤ b) line

Plain-append : (xs ys : List ℕ) → Plain xs → Plain ys → Plain (xs ++ ys)
Plain-append [] ys p q = q
Plain-append (x ∷ xs) ys p q = (p.0, Plain-append xs ys p.1 q)

Plain-decimal : (n : ℕ) → n < 2 ^ 32 → Plain (decimal n)
Plain-decimal n fits =
    decimal_by_steps (λ k ds. Plain ds) (λ k h. (omega arith, tt))
    (λ k ds h before. Plain-append ds ((48 + k % 10) ∷ []) before (omega arith, tt)) n (omega arith)

-- a number behind a blank
Plain-blank : (xs : List ℕ) → Plain xs → Plain (32 ∷ xs)
Plain-blank xs p = (omega arith, p)

Plain-numbers : (n : Numbers) → FitNumbers n → Plain (numbers_text n)
Plain-numbers n fits =
    Plain-append (decimal n.work) _ (Plain-decimal n.work fits.work)
    (Plain-blank _ (Plain-append (decimal n.deadline) _ (Plain-decimal n.deadline fits.deadline)
    (Plain-blank _ (Plain-append (decimal n.period) _ (Plain-decimal n.period fits.period)
    (Plain-blank _ (Plain-decimal n.jitter fits.jitter))))))

-- a word
Plain-word : (w : List ℕ) → InWord w → Plain w
Plain-word [] high = tt
Plain-word (b ∷ w) high = (omega (arith, high.0), Plain-word w high.1)

-- the texts that name a bound, and those of calls
pub Plain-bound : (f : Family) (k : ℕ) → FitsBound f k → Plain (bound_text f k)
Plain-bound f k fits = by_case (has_accuracies f)
  where
    word : Plain (family_word f)
    word = Plain-word (family_word f) (names_well f).bytes

    by_case : (v : Bool) → Plain (cond v (family_word f ++ 32 ∷ decimal k) (family_word f))
    by_case true = Plain-append (family_word f) _ word (Plain-blank (decimal k) (Plain-decimal k fits.small))
    by_case false = word

pub Plain-call : (call : Call) → FitsLine call → Plain (call_text call)
Plain-call (Frame h) fits = (
  omega arith,
  (
    omega arith,
    (omega arith, (omega arith, (omega arith, Plain-blank (decimal h.ticks) (Plain-decimal h.ticks fits)))),
  ),
)
Plain-call (Admit rank n) fits = (
  omega arith,
  (
    omega arith,
    (
      omega arith,
      (
        omega arith,
        (
          omega arith,
          Plain-blank _
              (Plain-append (decimal rank) _ (Plain-decimal rank fits.0) (Plain-blank _ (Plain-numbers n fits.1))),
        ),
      ),
    ),
  ),
)
Plain-call (Dismiss rank) fits = (
  omega arith,
  (
    omega arith,
    (
      omega arith,
      (
        omega arith,
        (omega arith, (omega arith, (omega arith, Plain-blank (decimal rank) (Plain-decimal rank fits)))),
      ),
    ),
  ),
)
Plain-call (Inquire rank) fits = (
  omega arith,
  (
    omega arith,
    (
      omega arith,
      (
        omega arith,
        (omega arith, (omega arith, (omega arith, Plain-blank (decimal rank) (Plain-decimal rank fits)))),
      ),
    ),
  ),
)

-- ---- such lines, with a line feed behind each

no_feed : (b : ℕ) → 32 ≤ b → (b == line_feed) ≡ false
no_feed b h = ne_eqb b 10 (λ e. omega arith)

no_return : (line : List ℕ) (i : ℕ) → Plain line → (get_or line i 0 == carriage_return) ≡ false
no_return [] i p = refl
no_return (b ∷ line) zero p = ne_eqb b 13 (λ e. omega (arith, p.0))
no_return (b ∷ line) (suc i) p = no_return line i p.1

stays : (line : List ℕ) → Plain line → without_return line ≡ line
unfolding without_return
stays line p = ap (λ v. cond v (take (length line - 1) line) line) (no_return line (length line - 1) p)

ended_first : (line rest begun : List ℕ) → Plain line
    → ended_lines begun (line ++ line_feed ∷ rest) ≡ (begun ++ line) ∷ ended_lines [] rest
ended_first [] rest begun p = ap (λ l. l ∷ ended_lines [] rest) (sym (append-nil begun))
ended_first (b ∷ line) rest begun p =
    ap (λ v. cond v (begun ∷ []) [] ++ ended_lines (cond v [] (begun ++ b ∷ [])) (line ++ line_feed ∷ rest))
    (no_feed b p.0)
    ∙ ended_first line rest (begun ++ b ∷ []) p.1
    ∙ ap (λ l. l ∷ ended_lines [] rest) (append_assoc begun (b ∷ []) line)

begun_first : (line rest begun : List ℕ) → Plain line
    → begun_after begun (line ++ line_feed ∷ rest) ≡ begun_after [] rest
begun_first [] rest begun p = refl
begun_first (b ∷ line) rest begun p =
    ap (λ v. begun_after (cond v [] (begun ++ b ∷ [])) (line ++ line_feed ∷ rest)) (no_feed b p.0)
    ∙ begun_first line rest (begun ++ b ∷ []) p.1

-- a line feed and what follows it, behind a line
behind : (line : List ℕ) (lines : List (List ℕ)) → as_lines (line ∷ lines) ≡ line ++ line_feed ∷ as_lines lines
behind line lines = append_assoc line (line_feed ∷ []) (as_lines lines)

ended_all : (lines : List (List ℕ)) → AllByRecursion Plain lines → ended_lines [] (as_lines lines) ≡ lines
ended_all [] p = refl
ended_all (line ∷ lines) p =
    ap (ended_lines []) (behind line lines) ∙ ended_first line (as_lines lines) [] p.0
    ∙ ap (λ ls. line ∷ ls) (ended_all lines p.1)

begun_none : (lines : List (List ℕ)) → AllByRecursion Plain lines → begun_after [] (as_lines lines) ≡ []
begun_none [] p = refl
begun_none (line ∷ lines) p =
    ap (begun_after []) (behind line lines) ∙ begun_first line (as_lines lines) [] p.0 ∙ begun_none lines p.1

all_stay : (lines : List (List ℕ)) → AllByRecursion Plain lines → map without_return lines ≡ lines
all_stay [] p = refl
all_stay (line ∷ lines) p =
    ap (λ l. l ∷ map without_return lines) (stays line p.0) ∙ ap (λ ls. line ∷ ls) (all_stay lines p.1)

-- plain lines are the lines of the script that they make
pub script_lines-plain : (lines : List (List ℕ)) → AllByRecursion Plain lines → script_lines (as_lines lines) ≡ lines
script_lines-plain lines p =
    ap (λ ls. map without_return (ls ++ last_line (begun_after [] (as_lines lines)))) (ended_all lines p)
    ∙ ap (λ b. map without_return (lines ++ last_line b)) (begun_none lines p)
    ∙ ap (map without_return) (append-nil lines)
    ∙ all_stay lines p
