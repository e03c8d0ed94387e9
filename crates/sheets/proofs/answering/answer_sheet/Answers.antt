use Rattle.std.proofs.Common.{subst, arith}
use Rattle.rows.specs.Answers.{gives, refuses}
use Rattle.sheets.specs.Answers.{Answers, IsPut}
use Rattle.sheets.proofs.Answered.{answers_once, answer_length, put_with_room, answered_leaf}
use Rattle.sheets.proofs.Decide.{first_decide}
use Rattle.sheets.proofs.answering.answer_sheet.Goals as goal

pub returns-in-Ok-clause-once : goal.returns-in-Ok-clause-once
returns-in-Ok-clause-once c = answers_once

pub returns-in-Err-clause-once : goal.returns-in-Err-clause-once
returns-in-Err-clause-once c = answers_once

pub returns-in-Ok-clause-decide : goal.returns-in-Ok-clause-decide
returns-in-Ok-clause-decide c = first_decide

pub returns-in-Err-clause-decide : goal.returns-in-Err-clause-decide
returns-in-Err-clause-decide c = first_decide

pub returns-in-Ok-clause-leaf : goal.returns-in-Ok-clause-leaf
returns-in-Ok-clause-leaf g c answers = answered_leaf g.args.bytes.now c answers

pub returns-in-Err-clause-leaf : goal.returns-in-Err-clause-leaf
returns-in-Err-clause-leaf g c answers = answered_leaf g.args.bytes.now c answers

pub returns-in-Ok-clause-fits : goal.returns-in-Ok-clause-fits
returns-in-Ok-clause-fits c =
    (gives c.file_survey.ensures.0, (c.in-Ok.sheet, c.in-Ok.ensures.fits, c.file_survey.ensures.1))

pub returns-in-Err-clause-fits : goal.returns-in-Err-clause-fits
returns-in-Err-clause-fits c = (refuses c.in-Err.fault.refusal c.in-Err.fault.at, c.in-Err.ensures.fits)

pub returns-in-Ok-clause-put : goal.returns-in-Ok-clause-put
returns-in-Ok-clause-put c a also =
    let answers : Answers c.args.bytes.now (gives c.file_survey.ensures.0) =
    (c.in-Ok.sheet, c.in-Ok.ensures.fits, c.file_survey.ensures.1) in
    subst (λ b. IsPut b c.args.buffer.now c.file_survey.new.buffer c.file_survey.result)
    (answers_once c.args.bytes.now (gives c.file_survey.ensures.0) a answers also) c.file_survey.ensures.2

pub returns-in-Err-clause-put : goal.returns-in-Err-clause-put
returns-in-Err-clause-put c a also =
    let refused = refuses c.in-Err.fault.refusal c.in-Err.fault.at in
    subst (λ b. IsPut b c.args.buffer.now c.put_refusal.new.buffer c.put_refusal.result)
    (answers_once c.args.bytes.now refused a c.in-Err.ensures.fits also) c.put_refusal.ensures

pub returns-in-Ok-clause-room : goal.returns-in-Ok-clause-room
returns-in-Ok-clause-room c room =
    let answers : Answers c.args.bytes.now (gives c.file_survey.ensures.0) =
    (c.in-Ok.sheet, c.in-Ok.ensures.fits, c.file_survey.ensures.1) in
    put_with_room (gives c.file_survey.ensures.0) c.args.buffer.now c.file_survey.new.buffer c.file_survey.result
    (omega (arith, room, answer_length c.args.bytes.now (gives c.file_survey.ensures.0) answers))
    c.file_survey.ensures.2
