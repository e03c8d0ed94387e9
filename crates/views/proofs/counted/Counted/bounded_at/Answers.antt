use Rattle.std.proofs.Common.{◌≡◌, ◌<◌, ◌++◌, ◌∷◌, [], length, map, get_or, sym, ap, ◌∙◌, arith}
use Rattle.std.proofs.lemmas.List.{map_push}
use Rattle.std.specs.Prelude.{slice_get}
use Rattle.rows.specs.Found.{tells}
use Rattle.filings.specs.Filings.{filed_findings}
use Rattle.views.specs.Counted.{by_bounds}
use Rattle.views.proofs.Counts.{get_gives, get_none}
use Rattle.views.proofs.Growing.{given_more, given_none}
use Rattle.views.proofs.counted.Counted.bounded_at.Goals.{in-Some+in_ok-push, in_default}
use Rattle.views.proofs.counted.Counted.bounded_at.Goals as goal

pub loop-filing-preserved : goal.loop-filing-preserved
loop-filing-preserved c =
    let i = c.args.i in
    let counts = by_bounds c.args.self.now in
    let k = c.loop-filing.filing-index in
    let within : k < length counts =
    omega (arith, c.loop-filing-test.true, ap length c.bounded-filing-items.ensures) in
    let item : c.filing-item.result ≡ get_or counts k c.filing-item.result =
    c.filing-item.is ∙ ap (λ fs. get_or fs k c.filing-item.result) c.bounded-filing-items.ensures in
    let read : slice_get (filed_findings (get_or counts k c.filing-item.result)) i
    ≡ slice_get (map tells c.findings.result.now) i =
    sym (ap (λ fs. slice_get fs i) c.findings.ensures ∙ ap (λ f. slice_get (filed_findings f) i) item) in
    elim c.match-get.branch [
      | in-Some+in_ok-push w ↦
          ap (λ v. map tells v.items) w.found-is
          ∙ ap (map tells) w.in_ok-push.ensures.items
          ∙ map_push tells c.loop-filing.found.items w.in-Some.finding.now
          ∙ ap (λ xs. xs ++ tells w.in-Some.finding.now ∷ []) c.loop-filing.invariant
          ∙ given_more (λ f. slice_get (filed_findings f) i) counts k c.filing-item.result
          (tells w.in-Some.finding.now) within
          (read ∙ get_gives tells c.findings.result.now i c.get.result w.in-Some.finding c.get.ensures.lookup
          w.in-Some.is)
      | in_default w ↦
          ap (λ v. map tells v.items) w.found-is
          ∙ c.loop-filing.invariant
          ∙ given_none (λ f. slice_get (filed_findings f) i) counts k c.filing-item.result within
          (read ∙ get_none tells c.findings.result.now i c.get.result c.get.ensures.lookup w.in_default.is)
    ]
