use Rattle.std.proofs.Common.{◌≡◌, ◌+◌, ◌-◌, ◌*◌, ◌/◌, ◌%◌, min, ap, ap₂, ◌∙◌, inl, inr, sym, arith}
use Rattle.std.proofs.lemmas.Bool.{cases_lt}
use Rattle.findings.specs.Loads.{load_of}
use Rattle.findings.proofs.Exacts.{line_missed, line_before}
use Rattle.findings.proofs.loads.Load.begin.Goals as goal

pub returns-then-parts-free-clause-none : goal.returns-then-parts-free-clause-none
returns-then-parts-free-clause-none g c t late within =
    let l = load_of c.args.self.now in
    let line = c.args.self.now.prepared.now.line in
    let free = l.frame - line.slope in
    let same : free * c.args.last ≡ (c.from-frame.result - line.slope) * c.from-2.result =
    ap₂ (λ h n. (h - line.slope) * n) (sym c.from-frame.ensures) (sym c.from-2.ensures) in
    let parts : l.frame * l.own ≡ c.from-frame.result * c.from.result =
    ap₂ (λ h n. h * n) (sym c.from-frame.ensures) (sym c.from.ensures) in
    line_missed l line.slope line.height free c.args.self.now.kept.lies
    (omega (arith, c.from-frame.ensures, c.if-line-frame.false)) c.args.last t
    (omega (arith, c.if-parts-free.true, same, parts)) (omega arith)

pub returns-clause-none : goal.returns-clause-none
returns-clause-none g c t late early = elim (cases_lt t c.args.from) [
  | inl before ↦ c.requires.none t late before
  | inr past ↦
      let l = load_of c.args.self.now in
      let line = c.args.self.now.prepared.now.line in
      let free = l.frame - line.slope in
      let same : c.from-frame.result - line.slope ≡ free = ap (λ h. h - line.slope) c.from-frame.ensures in
      let parts : c.from-frame.result * c.from.result + line.height ≡ l.frame * l.own + line.height =
      ap₂ (λ h n. h * n + line.height) c.from-frame.ensures c.from.ensures in
      let first = c.div_ceil.ensures ∙ ap₂ (λ a b. a / b + min 1 (a % b)) parts same in
      line_before l line.slope line.height free c.args.self.now.kept.lies
      (omega (arith, c.from-frame.ensures, c.if-line-frame.false)) t c.div_ceil.result
      (omega (arith, c.from-frame.ensures, c.if-line-frame.false)) first (omega (arith, c.max.ensures))
]
