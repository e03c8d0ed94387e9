use Rattle.std.proofs.Common.{◌≡◌, length, take, drop}
use Rattle.scripts.specs.Words.{words_of}
use Rattle.scripts.specs.Lines.{numbers_of}
use Rattle.scripts.proofs.Reading.{joined}
use Rattle.scripts.proofs.words.Words.numbers.Given as goal

abbrev pub invariant-loop-place : goal.invariant-loop-place
invariant-loop-place l =
    record {
      room : length l.numbers ≡ 5;
      read : numbers_of l.fields (words_of l.initial.self.0.now)
          ≡ joined (take l.place l.numbers) (numbers_of (drop l.place l.fields) (words_of l.self.0.now));
    }
