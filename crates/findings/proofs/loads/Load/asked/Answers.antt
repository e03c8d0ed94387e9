use Rattle.std.proofs.Common.{◌∙◌, arith}
use Rattle.std.proofs.lemmas.Option.{MatchOption-at_some}
use Rattle.bounds.specs.Questions.{row_on}
use Rattle.findings.proofs.loads.Load.asked.Goals as goal

pub listed : goal.listed
listed g c = omega (arith, c.args.self.now.kept.size, c.args.self.now.countable.few, c.requires.there)

pub returns : goal.returns
returns g c =
    let told = MatchOption-at_some _ _ c.unwrap.result c.unwrap.ensures c.at.ensures in
    let on = c.index-self-place.result in
    let stand = c.args.self.now.kept.stand c.args.place on in
    record {
      frame = told.0 ∙ (stand (row_on on) c.requires.there).0;
      row = λ d. told.1 ∙ (stand d c.requires.there).1;
      at = told.2;
    }
