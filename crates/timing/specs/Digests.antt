-- The digest of findings.
use Rattle.std.specs.Prelude.{ℕ, ◌+◌, ◌*◌, ◌%◌, ◌^◌, unwrap_or}
use Rattle.rows.specs.Found.{Found}

-- a digest with one number more, in 64 bits
abbrev pub digest_with_number : ℕ → ℕ → ℕ
digest_with_number digest n = (digest * 6364136223846793005 + n) % 2 ^ 64

-- a digest with one finding more: its first rest, 0 where the row misses, and then the points tested
abbrev pub digest_with : ℕ → Found → ℕ
digest_with digest f = digest_with_number (digest_with_number digest (unwrap_or f.rest 0)) f.points
