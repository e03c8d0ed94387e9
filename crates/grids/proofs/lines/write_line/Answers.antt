use Rattle.std.proofs.Common.{◌≡◌, ◌++◌, ◌∷◌, ◌∙◌, [], ℕ, List, ap, append_assoc}
use Rattle.std.specs.Str.{IsTrimAsciiEnd}
use Rattle.std.proofs.lemmas.Str.Ascii.{trim_ascii_end_is}
use Rattle.grids.specs.Aligned.{trimmed}
use Rattle.grids.proofs.lines.write_line.Goals as goal

-- a line put behind a text, trimmed and ended
line_put : (old mid new lent fields cut line : List ℕ)
    → fields ≡ line → lent ≡ fields → IsTrimAsciiEnd lent cut → mid ≡ old ++ cut → new ≡ mid ++ (10 ∷ [])
    → new ≡ old ++ (trimmed line ++ (10 ∷ []))
line_put old mid new lent fields cut line same is cuts m n =
    n ∙ ap (λ (x : List ℕ). x ++ (10 ∷ [])) m ∙ append_assoc old cut (10 ∷ [])
    ∙ ap (λ (x : List ℕ). old ++ (x ++ (10 ∷ []))) (trim_ascii_end_is lent cut cuts ∙ ap trimmed (is ∙ same))

pub returns : goal.returns
returns c =
    line_put c.args.text.now.items c.extend_from_slice.new.self.items _ _ c.in_ok-fields.fields.items _ _
    c.in_ok-fields.ensures c.deref.ensures.value c.trim_ascii_end.ensures.value
    c.in_ok-extend_from_slice.ensures.items c.in_ok-push.ensures.items
