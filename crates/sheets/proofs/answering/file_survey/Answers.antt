use Rattle.std.proofs.Common.{◌≡◌, length, take, sym, ap₂, ◌∙◌, subst}
use Rattle.rows.specs.Times.{most_rows}
use Rattle.rows.proofs.Checks.{given_is}
use Rattle.leaves.specs.Contents.{contents, IsLawful}
use Rattle.findings.specs.Asking.{list_checks}
use Rattle.sheets.proofs.Surveys.{list_passes}
use Rattle.sheets.proofs.Leaves.{leaf_of, leaf_lawful, filled_first, put_answers, puts}
use Rattle.sheets.proofs.answering.file_survey.Goals as goal

pub returns-in_err-count : goal.returns-in_err-count
returns-in_err-count c =
    let t = c.args.sheet.now in
    let refused =
    c.in_err-count.ensures.answered
    ∙ list_passes (length t.rows) most_rows (length t.rows) c.heading-heading.ensures.lawful.few in
    absurd (cc)

pub returns : goal.returns
returns c =
    let t = c.args.sheet.now in
    let n = c.in_ok-count.count in
    let count : n ≡ length t.rows =
    given_is (list_checks (length t.rows) most_rows) n (length t.rows) c.in_ok-count.ensures.answered in
    let fs = take n c.survey.new.list in
    let found = filled_first t _ c.survey.new.list n count c.in_ok-count.ensures.filled in
    let leaf = contents c.heading-heading.result c.rows.result.now fs in
    let is : leaf_of t fs ≡ leaf =
    ap₂ (λ h rs. contents h rs fs) (sym c.heading-heading.ensures.answered) (sym c.rows.ensures) in
    let lawful = subst IsLawful is (leaf_lawful t fs c.heading-heading.ensures.lawful found) in (
      leaf,
      record { heading = c.heading-heading.ensures.answered; rows = c.rows.ensures; findings = found },
      record {
        told = c.file.ensures.answered ∙ put_answers leaf lawful (length c.args.buffer.now);
        bytes = puts leaf lawful c.args.buffer.now c.file.new.buffer c.file.result c.file.ensures.filed
            c.file.ensures.refused;
      },
    )
