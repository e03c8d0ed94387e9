-- Digits, as every byte of a word and as the library's word.
use Rattle.std.proofs.Common.{◌≡◌, ℕ, ◌&&◌, List, [], ◌∷◌, refl, ap}
use Rattle.std.specs.Char.{is_ascii_digit}
use Rattle.std.specs.List.{list_all}
use Rattle.std.specs.Str.{all_ascii_digits}

pub all_digits_all : (w : List ℕ) → list_all is_ascii_digit w ≡ all_ascii_digits w
all_digits_all [] = refl
all_digits_all (b ∷ w) = ap (λ t. is_ascii_digit b && t) (all_digits_all w)
