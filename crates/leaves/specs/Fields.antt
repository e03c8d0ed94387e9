-- What stands in the body of an entry.
use Rattle.std.specs.Prelude.{◌≡◌, ℕ, List, [], slice_index, ◌==◌, if◌then◌else◌}
use Rattle.std.specs.Option.{unwrap_or}
use Rattle.rows.specs.Answers.{gives}
use Rattle.rows.specs.Found.{Found}
use Rattle.rows.specs.Frames.{frame_of}
use Rattle.rows.specs.declared.tasks.Numbers.{Numbers}
use Rattle.rows.specs.declared.verdicts.Finding.{Finding}
use Rattle.rows.specs.declared.verdicts.Verdict.TheVariants.{Meets, Misses}
use Rattle.leaves.specs.declared.entries.HeadingNumbers.{HeadingNumbers}
use Rattle.leaves.specs.Bytes.{number_at, last_number}

-- the numbers in the body of F
abbrev pub heading_fields : List ℕ → HeadingNumbers
heading_fields body = record {
  frame = frame_of (number_at 0 body);
  bound = slice_index body 4;
  accuracy = slice_index body 5;
}

-- the numbers in the body of R
abbrev pub row_fields : List ℕ → Numbers
row_fields body = record {
  work = number_at 0 body;
  deadline = number_at 4 body;
  period = number_at 8 body;
  jitter = number_at 12 body;
}

-- the finding in the body of A, where a first rest of 0 is a miss
abbrev pub finding_fields : List ℕ → Finding
finding_fields body = record {
  verdict = if number_at 0 body == 0 then Misses else Meets (number_at 0 body);
  points = number_at 4 body;
}

-- from its last field back the body of A tells what was found: first the points, then, in the bytes before them, the
-- first rest, 0 where the row misses, and no byte is left
pub record TellsBackwards (body : List ℕ) (f : Found) : Type 0 where
  pub before : List ℕ
  pub points : last_number body ≡ gives (f.points, before)
  pub rest : last_number before ≡ gives (unwrap_or f.rest 0, [])
