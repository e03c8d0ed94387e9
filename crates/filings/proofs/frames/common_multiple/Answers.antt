use Rattle.std.proofs.Common.{◌≡◌, ◌*◌, ap₂, subst, sym, arith}
use Rattle.filings.specs.Frames.{IsJoined}
use Rattle.filings.proofs.Filed.{frame_low}
use Rattle.filings.proofs.Multiples.{joined, joined_is, never_joined, positive}
use Rattle.filings.proofs.frames.common_multiple.Goals as goal

pub nonzero_div-frame : goal.nonzero_div-frame
nonzero_div-frame c =
    let some = positive c.args.frame c.args.period c.common_divisor-divisor.result
    (frame_low c.args.frame c.requires) c.common_divisor-divisor.ensures in
    omega (arith, some)

pub returns-then-multiple-from : goal.returns-then-multiple-from
returns-then-multiple-from c =
    let low = frame_low c.args.frame c.requires in
    let g = c.common_divisor-divisor.result in
    let is : c.from.result * c.from-2.result
    ≡ joined c.args.frame c.args.period g low c.common_divisor-divisor.ensures =
    ap₂ ◌*◌ c.from.ensures c.from-2.ensures in
    never_joined c.args.frame c.args.period g low c.common_divisor-divisor.ensures
    (omega (arith, is, c.if-multiple-from.true, c.from-3.ensures))

pub returns : goal.returns
returns c =
    let low = frame_low c.args.frame c.requires in
    let g = c.common_divisor-divisor.result in
    let is : c.from.result * c.from-2.result
    ≡ joined c.args.frame c.args.period g low c.common_divisor-divisor.ensures =
    ap₂ ◌*◌ c.from.ensures c.from-2.ensures in
    subst (IsJoined c.args.frame c.args.period) (sym is)
    (joined_is c.args.frame c.args.period g low c.common_divisor-divisor.ensures
    (omega (arith, c.if-period-eq0.false)) (omega (arith, is, c.if-multiple-from.false, c.from-3.ensures)))
