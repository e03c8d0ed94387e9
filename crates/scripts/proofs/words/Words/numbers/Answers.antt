use Rattle.std.proofs.Common.{◌≡◌, length, take, Ok, subst, sym, ◌∙◌, refl, arith}
use Rattle.std.proofs.Math.ListN.{length-set}
use Rattle.scripts.specs.Words.{words_of}
use Rattle.scripts.specs.Lines.{numbers_of}
use Rattle.scripts.proofs.Reading.{joined_none, one_more, one_fails, all_read}
use Rattle.scripts.proofs.words.Words.numbers.Goals as goal

pub loop-place-init : goal.loop-place-init
loop-place-init c = record { room = refl; read = sym (joined_none _) }

pub returns-in_default : goal.returns-in_default
returns-in_default c =
    one_fails (words_of c.args.self.0.now) (words_of c.loop-place.self.0.now) c.args.fields.now
    (take c.loop-place.place c.loop-place.numbers) c.loop-place.place c.loop-place-test.true
    c.loop-place.invariant.read c.in_default.ensures

pub loop-place-preserved : goal.loop-place-preserved
loop-place-preserved c = record {
  room = length-set c.loop-place.numbers c.loop-place.place c.in-Some.number ∙ c.loop-place.invariant.room;
  read = one_more (words_of c.args.self.0.now) (words_of c.number.new.self.0.now)
      (words_of c.loop-place.self.0.now) c.args.fields.now c.loop-place.numbers c.loop-place.place c.in-Some.number
      c.loop-place-test.true (omega arith) c.loop-place.invariant.read c.in-Some.ensures;
}

pub returns : goal.returns
returns c =
    let whole : length c.args.fields.now ≡ c.loop-place.place = omega arith in
    subst (λ n. numbers_of c.args.fields.now (words_of c.args.self.0.now) ≡ Ok (take n c.loop-place.numbers))
    (sym whole)
    (all_read (words_of c.args.self.0.now) (words_of c.loop-place.self.0.now) c.args.fields.now
    (take c.loop-place.place c.loop-place.numbers) c.loop-place.place c.loop-place-test.false
    c.loop-place.invariant.read)
