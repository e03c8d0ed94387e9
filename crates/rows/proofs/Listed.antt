-- The refusals are listed by their numbers.
use Rattle.std.proofs.Common.{◌≡◌, ◌==◌, Some, refl, find}
use Rattle.rows.specs.declared.refusals.Refusal.{Refusal}
use Rattle.rows.specs.declared.refusals.Refusal.TheVariants.{BadFrame, StandingRows, BadAccuracy, IdleRow, NoWindow}
use Rattle.rows.specs.declared.refusals.Refusal.TheVariants.{LateDeadline, LongPeriod, OffFrame, FullTable, NoRank}
use Rattle.rows.specs.declared.refusals.Refusal.TheVariants.{Overload, ShortList, CutLeaf, StrangeLetter, OutOfTurn}
use Rattle.rows.specs.declared.refusals.Refusal.TheVariants.{Miscount, BadFinding, LooseBytes, ShortBuffer}
use Rattle.rows.specs.declared.refusals.Refusal.TheVariants.{UnknownBound, NewcomerOverload}
use Rattle.rows.specs.declared.refusals.TheConstants.Refusal.{ALL}
use Rattle.rows.specs.Refusals.{number}

-- each is the first of all that has its number
pub listed : (r : Refusal) → find (λ x. number x == number r) ALL ≡ Some r
listed BadFrame = refl
listed StandingRows = refl
listed BadAccuracy = refl
listed IdleRow = refl
listed NoWindow = refl
listed LateDeadline = refl
listed LongPeriod = refl
listed OffFrame = refl
listed FullTable = refl
listed NoRank = refl
listed Overload = refl
listed ShortList = refl
listed CutLeaf = refl
listed StrangeLetter = refl
listed OutOfTurn = refl
listed Miscount = refl
listed BadFinding = refl
listed LooseBytes = refl
listed ShortBuffer = refl
listed UnknownBound = refl
listed NewcomerOverload = refl
