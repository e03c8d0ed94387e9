use Rattle.std.proofs.Common.{ap, ◌∙◌}
use Rattle.filings.proofs.Filed.{filed_so}
use Rattle.filings.proofs.filings.Filing.file.Goals as goal

pub returns : goal.returns
returns c =
    filed_so _ c.args.self.now c.rows.result.now c.findings.result.now c.args.buffer.now c.file.new.buffer c.file.result
    (c.numbers-frame.ensures.answered ∙ c.frame.ensures.answered ∙ ap (λ f. f.frame) c.self.view_is)
    (ap (λ f. f.bound) c.self.view_is) c.rows.ensures.answered c.rows.ensures.judged c.findings.ensures
    c.file.ensures.answered c.file.ensures.filed c.file.ensures.refused
