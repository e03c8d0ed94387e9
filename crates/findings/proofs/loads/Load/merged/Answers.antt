use Rattle.std.proofs.Common.{◌≡◌, ℕ, ◌<◌, refl, ◌+◌, ◌*◌, ◌/◌, ◌%◌, ◌≤◌, slice_index_or, slice_set}
use Rattle.std.proofs.Common.{length, take, ap, sym, ◌∙◌, arith}
use Rattle.std.proofs.lemmas.Grind.{get_or-set_at}
use Rattle.std.proofs.lemmas.List.{length-set}
use Rattle.rows.specs.declared.tasks.Row.{Row}
use Rattle.std.proofs.lemmas.Nat.{mod_below}
use Rattle.rows.specs.Times.{horizon}
use Rattle.bounds.specs.Lemmas.Instants.{count_le}
use Rattle.findings.specs.Counting.{near, is_corner_above}
use Rattle.findings.specs.Loads.{load_of}
use Rattle.findings.proofs.Kept.{told_ahead}
use Rattle.findings.proofs.Turns.{turns_start, put_turn, counted_before, counted_there, turns_on, root_least, turn_at}
use Rattle.findings.proofs.Turns.{leaves_raised}
use Rattle.findings.proofs.loads.Load.merged.Goals as goal

-- what a place of a list holds that no row has been put into
no_row : Row
no_row = record {
  work = 1;
  deadline = 1;
  period = 1;
  jitter = 0;
  busy = omega arith;
  roomy = omega arith;
  timely = omega arith;
  near = omega arith;
}

pub planted-keys-requires-clause-near : goal.planted-keys-requires-clause-near
planted-keys-requires-clause-near g c k small =
    let l = load_of c.args.self.now in
    let nexts = take (length l.above) c.args.self.now.prepared.now.nexts in
    let ahead = told_ahead l near nexts (omega arith) c.args.self.now.kept.ahead in
    (turns_start l near nexts (omega arith) c.args.self.now.kept.ahead k (omega (arith, ahead.size))).high

pub loop-init : goal.loop-init
loop-init g c =
    let l = load_of c.args.self.now in
    let nexts = take (length l.above) c.args.self.now.prepared.now.nexts in
    let is = c.args.self.now.kept.ahead in
    record {
      size = (told_ahead l near nexts (omega arith) is).size;
      within = c.requires.within;
      tally = c.requires.counted;
      turns = turns_start l near nexts (omega arith) is;
      tree = c.planted-keys.ensures.tree;
      leaves = c.planted-keys.ensures.leaves;
    }

pub returns-then-at-end : goal.returns-then-at-end
returns-then-at-end g c =
    let l = load_of c.args.self.now in
    let known = c.loop.invariant in
    let least = root_least c.loop.keys c.loop.nexts known.tree known.leaves
    (omega (arith, known.size, c.args.self.now.countable.few)) in
    known.tally ∙ sym (counted_before l c.loop.seen (slice_index_or c.loop.keys 1 0 / 32) c.loop.nexts known.turns
    (λ k small. least k (omega (arith, known.size))) c.args.end known.within c.if-at-end.true)

pub one_more-corners-requires : goal.one_more-corners-requires
one_more-corners-requires g c = omega (
  arith,
  c.loop.invariant.tally,
  count_le
      (is_corner_above (load_of c.args.self.now)) c.loop.seen,
  c.loop.invariant.within,
  c.requires.near,
)

pub overflow_mul-nexts : goal.overflow_mul-nexts
overflow_mul-nexts g c =
    let told = c.next_of.ensures no_row in
    let put = put_turn (load_of c.args.self.now) c.loop.nexts _ _ c.next_of.result no_row
    c.loop.invariant.size (omega (arith, c.if-at-end.false, c.requires.near)) (sym c.if-not-is_turn.ensures) told in
    record { fits = omega (arith, put.1, put.3) }

pub overflow_add-nexts : goal.overflow_add-nexts
overflow_add-nexts g c =
    let told = c.next_of.ensures no_row in
    let put = put_turn (load_of c.args.self.now) c.loop.nexts _ _ c.next_of.result no_row
    c.loop.invariant.size (omega (arith, c.if-at-end.false, c.requires.near)) (sym c.if-not-is_turn.ensures) told in
    record { fits = omega (arith, put.1, put.3, mod_below (slice_index_or c.loop.keys 1 0) 32 (omega arith)) }

pub raise-requires-clause-more : goal.raise-requires-clause-more
raise-requires-clause-more g c =
    let place = slice_index_or c.loop.keys 1 0 % 32 in
    let told = c.next_of.ensures no_row in
    let put = put_turn (load_of c.args.self.now) c.loop.nexts place _ c.next_of.result no_row
    c.loop.invariant.size (omega (arith, c.if-at-end.false, c.requires.near)) (sym c.if-not-is_turn.ensures) told in
    let turn = turn_at c.loop.nexts place _ (sym c.if-not-is_turn.ensures) in
    omega (arith, put.1, put.2, c.loop.invariant.leaves place put.0, turn.1)

pub loop-preserved : goal.loop-preserved
loop-preserved g c =
    let l = load_of c.args.self.now in
    let known = c.loop.invariant in
    let place = slice_index_or c.loop.keys 1 0 % 32 in
    let at = slice_index_or c.loop.keys 1 0 / 32 in
    let x = c.next_of.result in
    let turn = turn_at c.loop.nexts place at (sym c.if-not-is_turn.ensures) in
    let small : place < length l.above = omega (arith, known.size, turn.0) in
    let near : at ≤ horizon = omega (arith, c.if-at-end.false, c.requires.near) in
    let root = root_least c.loop.keys c.loop.nexts known.tree known.leaves
    (omega (arith, known.size, c.args.self.now.countable.few)) in
    let least : (k : ℕ) → k < length l.above → at ≤ slice_index_or c.loop.nexts k 0 =
    λ k low. root k (omega (arith, known.size, low)) in
    let set : slice_index_or (slice_set c.loop.nexts place x) place 0 ≡ x =
    get_or-set_at c.loop.nexts place place x 0 refl turn.0 in
    record {
      size = length-set c.loop.nexts place x ∙ known.size;
      within = c.if-at-end.false;
      tally = c.one_more-corners.ensures ∙ counted_there l c.loop.seen at c.loop.nexts known.turns least place small
          turn.1 near c.loop.corners known.tally;
      turns = turns_on l c.loop.seen at c.loop.nexts known.turns least place small turn.1 near x c.next_of.ensures
          known.size;
      tree = c.raise.ensures.tree;
      leaves = leaves_raised c.loop.keys c.raise.new.keys c.loop.nexts place x known.leaves turn.0
          (mod_below (slice_index_or c.loop.keys 1 0) 32 (omega arith))
          (c.raise.ensures.there ∙ ap (λ n. n * 32 + place) set) c.raise.ensures.others;
    }
