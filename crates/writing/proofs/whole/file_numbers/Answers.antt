use Rattle.std.proofs.Common.{◌≤◌, length, refl, subst, sym}
use Rattle.std.proofs.lemmas.Result.{IfOk-weaker}
use Rattle.rows.specs.Answers.{gives}
use Rattle.rows.proofs.Checks.{given_is}
use Rattle.leaves.specs.Contents.{IsLawful, contents, encoding}
use Rattle.leaves.specs.Headings.{heading_checks, heading_plain}
use Rattle.reading.specs.Whole.{Fits}
use Rattle.writing.proofs.Leaves.{contents_are}
use Rattle.writing.proofs.whole.file_numbers.Goals as goal

pub returns-clause-filed : goal.returns-clause-filed
returns-clause-filed c =
    let h = c.in_ok-judge.field-0 in
    let same = given_is (heading_checks c.args.numbers 0) (heading_plain h) c.args.numbers c.in_ok-judge.ensures in
    IfOk-weaker c.file.result _ _
    (λ n filed. (
      contents h c.args.rows.now c.args.findings.now,
      record { heading = same; rows = refl; findings = refl },
      filed,
    )) c.file.ensures.filed

pub returns-clause-again : goal.returns-clause-again
returns-clause-again g bytes c fits are room =
    let h = g.in_ok-judge.field-0 in
    let same = given_is (heading_checks g.args.numbers 0) (heading_plain h) g.args.numbers g.in_ok-judge.ensures in
    let is = contents_are h g.args.numbers g.args.rows.now g.args.findings.now c same are in
    g.file.ensures.again bytes (subst (λ d. Fits bytes (gives d)) (sym is) fits) room

pub returns-clause-always : goal.returns-clause-always
returns-clause-always g c are lawful room =
    let h = g.in_ok-judge.field-0 in
    let same = given_is (heading_checks g.args.numbers 0) (heading_plain h) g.args.numbers g.in_ok-judge.ensures in
    let is = sym (contents_are h g.args.numbers g.args.rows.now g.args.findings.now c same are) in
    g.file.ensures.always (subst IsLawful is lawful)
    (subst (λ d. length (encoding d) ≤ length g.args.buffer.now) is room)
