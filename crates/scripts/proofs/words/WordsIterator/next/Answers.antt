use Rattle.std.proofs.Common.{◌≡◌, ◌<◌, ◌∷◌, length, rules, arith}
use Rattle.std.proofs.lemmas.List.{take_all, length-drop}
use Rattle.scripts.specs.Words.{words_of}
use Rattle.scripts.proofs.WordList.{taken}
use Rattle.scripts.proofs.words.WordsIterator.next.Goals as goal

pub returns-then-is_empty-clause-steps : goal.returns-then-is_empty-clause-steps
returns-then-is_empty-clause-steps c =
    let t = taken c.args.self.now.0.now _ c.split_at.result.0.now c.split_at.result.1.now c.blank_length.result
    c.word_length.result c.blank_length.ensures.length
    (take_all _ _ (omega (arith, length-drop c.blank_length.result c.args.self.now.0.now)))
    c.word_length.ensures.length c.split_at.ensures.front c.split_at.ensures.back in
    let empty : length c.split_at.result.0.now ≡ 0 = search rules in
    (t.0 empty, t.0 empty)

pub returns-clause-steps : goal.returns-clause-steps
returns-clause-steps c =
    let t = taken c.args.self.now.0.now _ c.split_at.result.0.now c.split_at.result.1.now c.blank_length.result
    c.word_length.result c.blank_length.ensures.length
    (take_all _ _ (omega (arith, length-drop c.blank_length.result c.args.self.now.0.now)))
    c.word_length.ensures.length c.split_at.ensures.front c.split_at.ensures.back in
    let some : 0 < length c.split_at.result.0.now = search rules in
    t.1 some

pub returns-clause-goes : goal.returns-clause-goes
returns-clause-goes c =
    let t = taken c.args.self.now.0.now _ c.split_at.result.0.now c.split_at.result.1.now c.blank_length.result
    c.word_length.result c.blank_length.ensures.length
    (take_all _ _ (omega (arith, length-drop c.blank_length.result c.args.self.now.0.now)))
    c.word_length.ensures.length c.split_at.ensures.front c.split_at.ensures.back in
    let some : 0 < length c.split_at.result.0.now = search rules in
    let e : words_of c.args.self.now.0.now ≡ c.split_at.result.0.now ∷ words_of c.split_at.result.1.now = t.1 some in
    search rules
