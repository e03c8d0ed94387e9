use Rattle.std.proofs.Common.{◌≡◌, [], ◌∷◌, length, take, subst, rules}
use Rattle.rows.specs.Answers.{first_refusal, gives, refuses}
use Rattle.rows.specs.Lists.{written}
use Rattle.sheets.specs.Reading.{FitsSheet}
use Rattle.sheets.specs.Tables.{OnSheet, sheet_bytes}
use Rattle.filings.specs.Checks.{filing_checks, frame_for}
use Rattle.filings.specs.Filings.{heading_numbers}
use Rattle.filings.specs.Sheets.{IsTableOf}
use Rattle.views.proofs.BadKinds.{accuracy_bad}
use Rattle.views.proofs.Refused.{sheet_refused}
use Rattle.views.proofs.sheeting.put_sheet.Goals as goal

pub returns-in-Ok-clause-sheet : goal.returns-in-Ok-clause-sheet
returns-in-Ok-clause-sheet c =
    let frame = c.args.frame in
    let bound = c.args.bound in
    let ns = c.numbers.result.now in
    let new = c.write_sheet.new.buffer in
    let filled : (t : OnSheet) × IsTableOf (heading_numbers (frame_for frame ns) bound) ns t
    × (new ≡ written _ 0 (sheet_bytes t)) × FitsSheet (take c.in-Ok.length new) (gives t) =
    c.in-Ok.ensures.written in
    record {
      sheet = filled.0;
      tasks = subst
          (λ xs. IsTableOf (heading_numbers (frame_for frame xs) bound) xs filled.0) c.numbers.ensures.numbers filled.1;
      encoded = filled.3.1;
    }

pub trouble-requires : goal.trouble-requires
trouble-requires c =
    let e = c.in-Err.fault in
    let size : length c.args.buffer.now ≡ 551 = search rules in
    accuracy_bad c.args.frame (c.args.bound ∷ []) c.numbers.result.now e.refusal e.at
    (sheet_refused c.args.frame c.args.bound c.numbers.result.now
    (length c.args.buffer.now) e.refusal e.at _ size c.numbers.ensures.few c.in-Err.ensures.answered)

pub returns-in-Err-clause-refused : goal.returns-in-Err-clause-refused
returns-in-Err-clause-refused c =
    let e = c.in-Err.fault in
    let size : length c.args.buffer.now ≡ 551 = search rules in
    let first = sheet_refused c.args.frame c.args.bound c.numbers.result.now
    (length c.args.buffer.now) e.refusal e.at _ size c.numbers.ensures.few c.in-Err.ensures.answered in
    record {
      refusal = e.refusal;
      at = e.at;
      first = subst
          (λ ns. refuses e.refusal e.at ≡ first_refusal (filing_checks c.args.frame (c.args.bound ∷ []) ns))
          c.numbers.ensures.numbers first;
      told = c.trouble.ensures;
    }
