-- The refusals by their numbers and words.
use Rattle.std.specs.Prelude.{ℕ, List, codes}
use Rattle.rows.specs.declared.refusals.Refusal.{Refusal}
use Rattle.rows.specs.declared.refusals.Refusal.TheVariants.{BadFrame, StandingRows, BadAccuracy, IdleRow, NoWindow}
use Rattle.rows.specs.declared.refusals.Refusal.TheVariants.{LateDeadline, LongPeriod, OffFrame, FullTable, NoRank}
use Rattle.rows.specs.declared.refusals.Refusal.TheVariants.{Overload, ShortList, CutLeaf, StrangeLetter, OutOfTurn}
use Rattle.rows.specs.declared.refusals.Refusal.TheVariants.{Miscount, BadFinding, LooseBytes, ShortBuffer}
use Rattle.rows.specs.declared.refusals.Refusal.TheVariants.{UnknownBound, NewcomerOverload}

-- the number of a refusal
abbrev pub number : Refusal → ℕ
number BadFrame = 1
number StandingRows = 2
number BadAccuracy = 3
number IdleRow = 4
number NoWindow = 5
number LateDeadline = 6
number LongPeriod = 7
number OffFrame = 8
number FullTable = 9
number NoRank = 10
number Overload = 11
number ShortList = 12
number CutLeaf = 13
number StrangeLetter = 14
number OutOfTurn = 15
number Miscount = 16
number BadFinding = 17
number LooseBytes = 18
number ShortBuffer = 19
number UnknownBound = 20
number NewcomerOverload = 21

-- the words of a refusal, as bytes
abbrev pub words : Refusal → List ℕ
words BadFrame = codes "bad frame"
words StandingRows = codes "standing rows"
words BadAccuracy = codes "bad accuracy"
words IdleRow = codes "idle row"
words NoWindow = codes "no window"
words LateDeadline = codes "late deadline"
words LongPeriod = codes "long period"
words OffFrame = codes "off frame"
words FullTable = codes "full table"
words NoRank = codes "no rank"
words Overload = codes "overload"
words ShortList = codes "short list"
words CutLeaf = codes "cut leaf"
words StrangeLetter = codes "strange letter"
words OutOfTurn = codes "out of turn"
words Miscount = codes "miscount"
words BadFinding = codes "bad finding"
words LooseBytes = codes "loose bytes"
words ShortBuffer = codes "short buffer"
words UnknownBound = codes "unknown bound"
words NewcomerOverload = codes "newcomer overload"
