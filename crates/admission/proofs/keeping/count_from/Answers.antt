use Rattle.std.proofs.Common.{◌≡◌, [], map, length, drop, subst, ap, ◌∙◌, arith}
use Rattle.std.proofs.lemmas.List.{length-map}
use Rattle.rows.specs.Found.{tells}
use Rattle.rows.specs.Lists.{written}
use Rattle.rows.proofs.Checks.{when_ok}
use Rattle.rows.proofs.Moved.{refilled}
use Rattle.findings.specs.Tables.{findings_of}
use Rattle.findings.proofs.Tables.{length_findings_below}
use Rattle.admission.proofs.Counted.{recounted}
use Rattle.admission.proofs.keeping.count_from.Goals as goal

pub returns : goal.returns
returns g c =
    let m = g.B.Bound.meaning c.args.bound.now in
    let table = c.args.table.now in
    let old = c.args.findings.now.items in
    let new = c.recount.new.list in
    let all = findings_of m table.frame table.rows in
    let many = length_findings_below m table.frame [] table.rows in
    let lent = when_ok _ _ c.recount.result c.unwrap.result c.unwrap.ensures c.recount.ensures.filled in
    let filled = subst
    (λ xs. map tells new ≡ written (map tells xs) c.args.from (drop c.args.from all)) c.as_mut_slice.ensures.value
    lent in
    let counted =
    recounted (map tells old) all (map tells new) c.args.from (omega (arith, many, c.requires.within))
    (omega (arith, length-map old tells, many, c.requires.size)) c.requires.known filled in
    let size : length new ≡ length old =
    omega (arith, length-map new tells, ap length counted, many, c.requires.size) in
    ap (map tells) (refilled old new size) ∙ counted
