use Rattle.std.proofs.Common.{refl, arith}
use Rattle.findings.proofs.Kept.{clear_marks}
use Rattle.findings.proofs.preparing.Prepared.new.Goals as goal

pub returns : goal.returns
returns c m h = record {
  size = refl;
  stand = λ k s r low. absurd (omega arith);
  lies = c.new.ensures h;
  marks = clear_marks m;
  places = refl;
  ahead = refl;
}
