-- What is told of a picture.
use Rattle.std.specs.Prelude.{◌≡◌, ◌++◌, ℕ, List, codes}

-- what is told stands between the start and the end of a description
abbrev pub TellsNumbers : List ℕ → List ℕ → Type 0
TellsNumbers picture told = (front : List ℕ) × (back : List ℕ)
    × (picture ≡ front ++ (codes "<desc>" ++ (told ++ (codes "</desc>" ++ back))))
