use Rattle.std.proofs.Common.{length, sym, ap, ◌∙◌, subst, arith, rules}
use Rattle.std.specs.List.{AllPass}
use Rattle.rows.specs.Answers.{Passes}
use Rattle.rows.specs.Books.{book}
use Rattle.rows.specs.Found.{is_met}
use Rattle.rows.specs.Ranks.{rank_checks}
use Rattle.rows.proofs.Ranked.{ranked}
use Rattle.findings.specs.Tables.{findings_of}
use Rattle.admission.specs.declared.calls.Call.TheVariants.{Dismiss}
use Rattle.admission.specs.declared.calls.Reply.TheVariants.{Done}
use Rattle.admission.specs.Benches.{Does}
use Rattle.admission.proofs.Called.{dismisses, kept_sound, seen, without_is}
use Rattle.admission.proofs.Runs.{goes_on}
use Rattle.admission.proofs.Steps.{without_sound}
use Rattle.admission.proofs.benches.Bench.dismiss.Goals as goal

pub invariant_of-self : goal.invariant_of-self
invariant_of-self g c =
    let m = g.B.Bound.meaning c.self.inside.bound in
    let kept = c.self.inside.kept in
    let out = c.without_row-self-inside.ensures in
    let rank = ranked c.len.result c.args.rank c.in_ok-check_rank.ensures in
    let sound = without_sound m kept.table c.args.rank (kept_sound m kept c.len.ensures.judged c.self.invariant) rank.0
    (omega (arith, rank.1, c.len.ensures.answered)) in
    let is = out.table ∙ ap (book kept.table.frame) (without_is c.args.rank kept.table.rows rank.0) in
    record {
      counted = out.counted;
      meet = subst (AllPass is_met) (sym (out.counted ∙ ap (λ b. findings_of m b.frame b.rows) is)) sound.meet;
    }

pub returns-clause-does : goal.returns-clause-does
returns-clause-does g c =
    let s = c.self.inside in
    let new = c.without_row-self-inside in
    let passes = subst (λ n. Passes (rank_checks n c.args.rank)) c.len.ensures.answered c.in_ok-check_rank.ensures in
    let rank = ranked (length s.kept.table.rows) c.args.rank passes in
    subst (λ b. Does (g.B.Bound.meaning b.bound) (Dismiss c.args.rank) b (seen s.bound new.result) Done)
    c.self.view_is
    (dismisses (g.B.Bound.meaning s.bound) s.bound s.kept new.result c.args.rank passes rank.0 (invariant_of-self g c)
    new.ensures.table)

pub returns-clause-goes_on : goal.returns-clause-goes_on
returns-clause-goes_on g c = goes_on _ (returns-clause-does g c)

pub returns-in_err-check_rank-clause-does : goal.returns-in_err-check_rank-clause-does
returns-in_err-check_rank-clause-does g c = search rules

pub returns-in_err-check_rank-clause-goes_on : goal.returns-in_err-check_rank-clause-goes_on
returns-in_err-check_rank-clause-goes_on g c = goes_on _ (returns-in_err-check_rank-clause-does g c)
