use Rattle.std.proofs.Common.{◌≡◌, ◌-◌, ◌≤◌, get_or, length, ap, ap₂, sym, ◌∙◌, refl, subst, arith, rules}
use Rattle.rows.specs.Judging.{plain}
use Rattle.rows.specs.declared.verdicts.Finding.{Finding}
use Rattle.rows.specs.declared.verdicts.Verdict.TheVariants.{Meets}
use Rattle.rows.specs.Found.{tells}
use Rattle.rows.proofs.Ranked.{ranked}
use Rattle.admission.specs.declared.calls.Call.TheVariants.{Inquire}
use Rattle.admission.specs.declared.calls.Reply.TheVariants.{Found}
use Rattle.admission.specs.Benches.{Does}
use Rattle.admission.specs.Replies.{row_found}
use Rattle.admission.proofs.Called.{does_so, inquired, kept_is, seen, seen_sound}
use Rattle.admission.proofs.Counted.{many_kept}
use Rattle.admission.proofs.Runs.{goes_on}
use Rattle.admission.proofs.Standing.{rows_meet, told_so}
use Rattle.admission.proofs.benches.Bench.inquire.Goals as goal

pub bounds-as_slice-rank : goal.bounds-as_slice-rank
bounds-as_slice-rank g c =
    let kept = c.self.inside.kept in
    let rank = ranked _ c.args.rank c.in_ok-check_rank.ensures in
    omega (
      arith,
      rank.0,
      rank.1,
      ap length c.rows-rows.ensures.answered,
      ap length c.as_slice.ensures.value,
      many_kept (g.B.Bound.meaning c.self.inside.bound) kept.table.frame kept.table.rows kept.findings.items
          c.self.invariant.counted,
    )

pub returns-clause-does : goal.returns-clause-does
returns-clause-does g c =
    let m = g.B.Bound.meaning c.self.inside.bound in
    let s = c.self.inside in
    let kept = s.kept in
    let i = c.args.rank - 1 in
    let d = c.index-rows-rank.result in
    let e : Finding = record { verdict = Meets 0; points = 0 } in
    let rank = ranked _ c.args.rank c.in_ok-check_rank.ensures in
    let high : c.args.rank ≤ length kept.table.rows = omega (arith, rank.1, ap length c.rows-rows.ensures.answered) in
    let row : d ≡ get_or kept.table.rows i d =
    c.index-rows-rank.is ∙ ap (λ xs. get_or xs i d) c.rows-rows.ensures.answered in
    let finding : get_or c.as_slice.result.now i e ≡ get_or kept.findings.items i e =
    ap (λ xs. get_or xs i e) c.as_slice.ensures.value in
    subst (λ b. Does (g.B.Bound.meaning b.bound) (Inquire c.args.rank) b b (Found d (get_or c.as_slice.result.now i e)))
    c.self.view_is
    (subst (λ x. Does m (Inquire c.args.rank) (seen s.bound kept) (seen s.bound kept) x)
    (ap₂ Found (sym row) (sym finding))
    (does_so m (Inquire c.args.rank) (seen s.bound kept) (seen s.bound kept)
    (Found (get_or kept.table.rows i d) (get_or kept.findings.items i e))
    (row_found (plain (get_or kept.table.rows i d)) (tells (get_or kept.findings.items i e)))
    (inquired m kept c.self.invariant c.args.rank rank.0 high d e) refl (kept_is m s.bound kept c.self.invariant)))

pub returns-clause-goes_on : goal.returns-clause-goes_on
returns-clause-goes_on g c = goes_on _ (returns-clause-does g c)

pub returns-clause-told : goal.returns-clause-told
returns-clause-told g c =
    told_so (g.met.B.Bound.lawful c.args.self.now.bound)
    (seen_sound g.B.Bound.meaning c.self.inside.bound c.self.inside.kept c.args.self.now c.self.view_is
    c.rows-rows.ensures.judged c.self.invariant)
    (returns-clause-does g c)

pub returns-clause-both : goal.returns-clause-both
returns-clause-both g c =
    let now = c.args.self.now in
    rows_meet (g.B.Bound.meaning now.bound) (g.met.B.Bound.lawful now.bound) now.book
    (seen_sound g.B.Bound.meaning c.self.inside.bound c.self.inside.kept now c.self.view_is c.rows-rows.ensures.judged
    c.self.invariant)

pub returns-in_err-check_rank-clause-does : goal.returns-in_err-check_rank-clause-does
returns-in_err-check_rank-clause-does g c = search rules

pub returns-in_err-check_rank-clause-goes_on : goal.returns-in_err-check_rank-clause-goes_on
returns-in_err-check_rank-clause-goes_on g c = goes_on _ (returns-in_err-check_rank-clause-does g c)

pub returns-in_err-check_rank-clause-both : goal.returns-in_err-check_rank-clause-both
returns-in_err-check_rank-clause-both g c =
    let now = c.args.self.now in
    rows_meet (g.B.Bound.meaning now.bound) (g.met.B.Bound.lawful now.bound) now.book
    (seen_sound g.B.Bound.meaning c.self.inside.bound c.self.inside.kept now c.self.view_is c.rows-rows.ensures.judged
    c.self.invariant)
