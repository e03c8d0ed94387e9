use Rattle.std.proofs.Common.{◌≡◌, ℕ, List, [], ◌∷◌, ◌++◌, ap, sym, ◌∙◌, rules, append-nil}
use Rattle.std.specs.Char.{encode_utf8}
use Rattle.std.proofs.Output.{has_written_append, has_written_of_eq}
use Rattle.task_tables.specs.Printables.{printable_char}
use Rattle.task_tables.proofs.Seen.{seen_all, seen_more}
use Rattle.task_tables.proofs.printing.PrintableDisplay.fmt.Goals as goal

pub loop-character-init : goal.loop-character-init
loop-character-init g c = ([], search rules, λ p. search rules)

pub loop-character-preserved : goal.loop-character-preserved
loop-character-preserved g c =
    let (seen, is, wrote) = c.loop-character.invariant in (
      seen ++ encode_utf8 (printable_char c.in-Some.character),
      seen_more c.args.self.now.0.now c.loop-character.character-iterator.rest.now c.next.new.self.rest.now seen
          c.in-Some.character is c.in-Some.ensures.steps.0,
      λ p.
          let now = wrote p in
          has_written_append _ _ _ _ _ _ now (rw (sym c.printable_char.ensures) (search rules)),
    )

pub returns-clause-writes : goal.returns-clause-writes
returns-clause-writes g c p done =
    let (seen, is, wrote) = c.loop-character.invariant in
    has_written_of_eq _ _ _ _ _
    (seen_all c.args.self.now.0.now c.loop-character.character-iterator.rest.now seen is
    c.in-None.ensures.steps.0.0) (wrote p)
