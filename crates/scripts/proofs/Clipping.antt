-- Of a longer line the first 129 bytes decide.
use Rattle.std.proofs.Common.{◌≡◌, ℕ, ◌<◌, Bool, cond, List, length, take, get_or, sym, ap, ◌∙◌, ⊎_elim, arith}
use Rattle.std.specs.Prelude.{◌==◌}
use Rattle.std.proofs.lemmas.Bool.{cases_lt, lt-ltb}
use Rattle.std.proofs.lemmas.List.{take_all, length-take-le, get_or-take}
use Rattle.scripts.specs.declared.expecting.ExpectedWords.TheVariants.{ShortLine}
use Rattle.scripts.specs.declared.lines.ScriptLine.TheVariants.{Passed, NoCall}
use Rattle.scripts.specs.Lines.{line_by_words, line_of}
use Rattle.scripts.specs.Words.{words_of}

-- a line that is too long is judged by its first byte
judged_long : (named : Bool) (line : List ℕ) → 128 < length line
    → line_of named line ≡ cond (get_or line 0 0 == 35) Passed (NoCall ShortLine)
judged_long named line long =
    ap (λ v. cond (get_or line 0 0 == 35) Passed (cond v (NoCall ShortLine) (line_by_words named (words_of line))))
    (lt-ltb 128 (length line) long)

-- clipped to 129 bytes it is still too long, and begins so
pub line_of_clipped : (named : Bool) (line : List ℕ) → line_of named (take 129 line) ≡ line_of named line
line_of_clipped named line =
    ⊎_elim
    (λ h.
    let n : length (take 129 line) ≡ 129 = length-take-le 129 line (omega arith) in
    let first : get_or (take 129 line) 0 0 ≡ get_or line 0 0 = get_or-take 129 line 0 0 (omega arith) in
    judged_long named (take 129 line) (omega arith)
    ∙ (ap (λ b. cond (b == 35) Passed (NoCall ShortLine)) first ∙ sym (judged_long named line (omega arith))))
    (λ h. ap (λ l. line_of named l) (take_all 129 line h))
    (cases_lt 129 (length line))
