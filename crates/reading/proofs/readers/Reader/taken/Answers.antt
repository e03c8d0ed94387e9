use Rattle.std.proofs.Common.{◌≡◌, ℕ, ◌-◌, List, ◌∷◌, length, take, drop, sym, refl, subst, arith}
use Rattle.std.proofs.lemmas.Grind.{common_steps}
use Rattle.leaves.specs.Entries.{letter_F, letter_R, letter_A, letter_Z}
use Rattle.reading.specs.declared.entries.Taken.{Taken}
use Rattle.reading.specs.declared.phases.Phase.{Phase}
use Rattle.reading.specs.declared.phases.Phase.TheVariants.{Opening, Rows, Findings}
use Rattle.reading.specs.Grammar.{after_rows, after_findings}
use Rattle.reading.specs.Readers.{reading_of}
use Rattle.reading.specs.Stepping.{TakesEntry, reading}
use Rattle.reading.proofs.Taking.{seen_there}
use Rattle.reading.proofs.readers.Reader.taken.Goals as goal
use Rattle.reading.proofs.readers.Reader.taken.Goals.{in-Opening-eq70+in_ok-taken-in-Opening-eq70}
use Rattle.reading.proofs.readers.Reader.taken.Goals.{in-Rows-eq82+in_ok-taken-in-Rows-eq82}
use Rattle.reading.proofs.readers.Reader.taken.Goals.{in-Rows-eq65+in_ok-taken-in-Rows-eq65}
use Rattle.reading.proofs.readers.Reader.taken.Goals.{in-Rows-eq90+in_ok-taken-in-Rows-eq90}
use Rattle.reading.proofs.readers.Reader.taken.Goals.{in-Findings-eq65+in_ok-taken-in-Findings-eq65}
use Rattle.reading.proofs.readers.Reader.taken.Goals.{in-Findings-eq90+in_ok-taken-in-Findings-eq90}

-- what follows the first byte
abbrev after_first : List ℕ → List ℕ
after_first left = take (length left - 1) (drop 1 left)

-- what an arm took, in the phase and at the letter that it matched, is what is taken
there : (c : goal.Joined-self) (p : Phase) (k : ℕ) (t : Taken) → c.args.self.now.phase ≡ p
    → c.args.self.now.left.now ≡ k ∷ after_first c.args.self.now.left.now → c.match-self.taken ≡ t
    → TakesEntry (reading p (k ∷ after_first c.args.self.now.left.now)) t.entry (reading t.phase t.left.now)
    → TakesEntry (reading_of c.args.self.now) c.match-self.taken.entry
    (reading c.match-self.taken.phase c.match-self.taken.left.now)
there c p k t phase begins is taken =
    subst (λ x. TakesEntry (reading_of c.args.self.now) x.entry (reading x.phase x.left.now)) (sym is)
    (seen_there (reading_of c.args.self.now) c.args.self.now.phase c.args.self.now.left.now p
    (k ∷ after_first c.args.self.now.left.now) t.entry (reading t.phase t.left.now) refl phase begins taken)

pub returns-clause-taken : goal.returns-clause-taken
returns-clause-taken c =
    elim c.match-self.branch [
      | in-Opening-eq70+in_ok-taken-in-Opening-eq70 w ↦
          there c Opening letter_F _ w.in-Opening-eq70.is-0
          (grind (arith, common_steps)) w.taken-is w.in_ok-taken-in-Opening-eq70.ensures.taken
      | in-Rows-eq82+in_ok-taken-in-Rows-eq82 w ↦
          let here = w.in-Rows-eq82 in
          there c (Rows here.heading here.rows) letter_R _ here.is-0
          (grind (arith, common_steps)) w.taken-is w.in_ok-taken-in-Rows-eq82.ensures.taken
      | in-Rows-eq65+in_ok-taken-in-Rows-eq65 w ↦
          let here = w.in-Rows-eq65 in
          there c (Rows here.heading here.rows) letter_A _ here.is-0 (grind (arith, common_steps)) w.taken-is
          (w.in_ok-taken-in-Rows-eq65.ensures.taken _ after_rows)
      | in-Rows-eq90+in_ok-taken-in-Rows-eq90 w ↦
          let here = w.in-Rows-eq90 in
          there c (Rows here.heading here.rows) letter_Z _ here.is-0 (grind (arith, common_steps)) w.taken-is
          (w.in_ok-taken-in-Rows-eq90.ensures.taken _ after_rows)
      | in-Findings-eq65+in_ok-taken-in-Findings-eq65 w ↦
          let here = w.in-Findings-eq65 in
          there c (Findings here.heading here.rows here.findings) letter_A _ here.is-0
          (grind (arith, common_steps)) w.taken-is (w.in_ok-taken-in-Findings-eq65.ensures.taken _ after_findings)
      | in-Findings-eq90+in_ok-taken-in-Findings-eq90 w ↦
          let here = w.in-Findings-eq90 in
          there c (Findings here.heading here.rows here.findings) letter_Z _ here.is-0
          (grind (arith, common_steps)) w.taken-is (w.in_ok-taken-in-Findings-eq90.ensures.taken _ after_findings)
    ]
