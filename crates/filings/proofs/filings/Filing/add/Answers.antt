use Rattle.std.proofs.Common.{◌≡◌, ◌+◌, ◌++◌, ◌∷◌, [], length, map, sym, ap, ◌∙◌, arith}
use Rattle.rows.specs.Books.{book}
use Rattle.rows.specs.Found.{tells}
use Rattle.rows.proofs.Checks.{answered_is, when_ok}
use Rattle.bounds.specs.Values.{meaning_of}
use Rattle.findings.specs.Asking.{question_checks}
use Rattle.findings.specs.Findings.{row_finding}
use Rattle.findings.specs.Tables.{findings_of}
use Rattle.filings.proofs.Counted.{as_many, found_more, put_last}
use Rattle.filings.proofs.filings.Filing.add.Goals as goal

pub push-requires : goal.push-requires
push-requires c =
    let f = c.self.inside in
    omega (
      arith,
      as_many (meaning_of f.bound) f.table.frame f.table.rows f.findings.items c.self.invariant,
      ap (λ v. length v.rows) c.self.view_is,
      c.requires.few,
    )

pub invariant_of-self : goal.invariant_of-self
invariant_of-self c =
    let f = c.self.inside in
    let t = f.table in
    let m = meaning_of f.bound in
    let finding = c.unwrap-finding.result in
    let found : tells finding ≡ row_finding m t.frame c.args.row t.rows =
    answered_is tells
    (question_checks c.args.row t) _ c.find.result finding c.find.ensures.answered c.unwrap-finding.ensures in
    let with_row : c.put_in.new.self ≡ book t.frame (t.rows ++ c.args.row ∷ []) =
    when_ok _ _ c.put_in.result c.unwrap.result c.unwrap.ensures c.put_in.ensures.put
    ∙ ap (book t.frame)
    (put_last t.rows (c.len-rank.result + 1) c.args.row (ap (λ n. n + 1) c.len-rank.ensures.answered)) in
    ap (map tells) c.push.ensures.items
    ∙ found_more m t.frame t.rows c.args.row f.findings.items finding c.self.invariant found
    ∙ ap (λ b. findings_of m b.frame b.rows) (sym with_row)
