use Rattle.std.proofs.Common.{◌≡◌, ◌+◌, ◌-◌, ◌<◌, ◌≤◌, length, take, arith}
use Rattle.std.proofs.lemmas.List.{length-take-le}
use Rattle.bounds.specs.Instants.{count}
use Rattle.bounds.specs.Lemmas.Instants.{count_le}
use Rattle.findings.specs.Counting.{is_corner_above}
use Rattle.findings.specs.Loads.{load_of}
use Rattle.findings.proofs.Blocks.{counted_on}
use Rattle.findings.proofs.loads.Load.blocks.Goals as goal

pub loop-from-init : goal.loop-from-init
loop-from-init g c = record {
  counted = (counted_on (load_of c.args.self.now) c.args.end c.args.seen c.nearest-from.result c.args.nexts.now
      c.args.counted c.requires.within c.requires.ahead c.requires.counted c.nearest-from.ensures).1;
  some = c.requires.room;
  most = omega arith;
}

pub overflow_add-corners : goal.overflow_add-corners
overflow_add-corners g c =
    let p = is_corner_above (load_of c.args.self.now) in
    let width : length (take c.min-width.result c.loop-from.flags) ≡ c.min-width.result =
    length-take-le c.min-width.result c.loop-from.flags
    (omega (arith, c.min-width.ensures, c.loop-from.invariant.most)) in
    let few = count_le p (c.loop-from.from - 1 + length (take c.min-width.result c.loop-from.flags)) in
    record {
      fits = omega (
        arith,
        few,
        width,
        c.min-width.ensures,
        c.count_block-found.ensures.counted,
        c.loop-from.invariant.counted.tally,
        c.requires.near,
      );
    }

pub loop-from-smaller : goal.loop-from-smaller
loop-from-smaller g c =
    let l = load_of c.args.self.now in
    let width : length (take c.min-width.result c.loop-from.flags) ≡ c.min-width.result =
    length-take-le c.min-width.result c.loop-from.flags
    (omega (arith, c.min-width.ensures, c.loop-from.invariant.most)) in
    let reached = c.loop-from.from - 1 + length (take c.min-width.result c.loop-from.flags) in
    let within : reached ≤ c.args.end = omega (
      arith,
      width,
      c.min-width.ensures,
      c.loop-from.invariant.counted.low,
      c.loop-from-test.true,
    ) in
    let tally : c.loop-from.corners + c.count_block-found.result ≡ count (is_corner_above l) reached =
    omega (arith, c.count_block-found.ensures.counted, c.loop-from.invariant.counted.tally) in
    let (later, counted) = counted_on l c.args.end reached c.nearest-from-in-loop-from.result
    c.count_block-found.new.nexts _ within c.count_block-found.ensures.ahead tally
    c.nearest-from-in-loop-from.ensures in
    let some : 1 ≤ c.min-width.result = omega (
      arith,
      c.min-width.ensures,
      c.loop-from-test.true,
      c.loop-from.invariant.some,
    ) in
    let fewer : c.args.end + 1 - c.nearest-from-in-loop-from.result < c.args.end + 1 - c.loop-from.from =
    omega (arith, later, width, some, c.loop-from-test.true) in
    fewer

pub loop-from-preserved : goal.loop-from-preserved
loop-from-preserved g c =
    let l = load_of c.args.self.now in
    let width : length (take c.min-width.result c.loop-from.flags) ≡ c.min-width.result =
    length-take-le c.min-width.result c.loop-from.flags
    (omega (arith, c.min-width.ensures, c.loop-from.invariant.most)) in
    let reached = c.loop-from.from - 1 + length (take c.min-width.result c.loop-from.flags) in
    let within : reached ≤ c.args.end = omega (
      arith,
      width,
      c.min-width.ensures,
      c.loop-from.invariant.counted.low,
      c.loop-from-test.true,
    ) in
    let tally : c.loop-from.corners + c.count_block-found.result ≡ count (is_corner_above l) reached =
    omega (arith, c.count_block-found.ensures.counted, c.loop-from.invariant.counted.tally) in
    let (later, counted) = counted_on l c.args.end reached c.nearest-from-in-loop-from.result
    c.count_block-found.new.nexts _ within c.count_block-found.ensures.ahead tally
    c.nearest-from-in-loop-from.ensures in
    record { counted = counted; some = c.next_width-most.ensures.some; most = c.next_width-most.ensures.within }
