use Rattle.std.proofs.Common.{◌+◌, sym, ap, ◌∙◌, subst, rules}
use Rattle.admission.specs.declared.calls.Call.TheVariants.{Admit}
use Rattle.admission.specs.declared.calls.Reply.TheVariants.{Done, Refused}
use Rattle.admission.specs.Benches.{Does}
use Rattle.admission.proofs.Called.{admits_so, entering, kept_with, overloads_so, seen, seen_sound}
use Rattle.admission.proofs.Overloads.{overload_named}
use Rattle.admission.proofs.Runs.{goes_on}
use Rattle.admission.proofs.benches.Bench.admit.Goals as goal

pub returns-clause-does : goal.returns-clause-does
returns-clause-does g c =
    let s = c.self.inside in
    let new = c.with_row-kept in
    let enters = (entering s.kept c.args.rank c.args.numbers c.in_ok-row.row _ _ c.frame.ensures.answered
    c.in_ok-row.ensures c.len-count.ensures.answered c.len-count.ensures.judged c.if-count-eq-MOST_ROWS.false
    c.in_ok-check_rank.ensures) in
    subst (λ b. Does (g.B.Bound.meaning b.bound) (Admit c.args.rank c.args.numbers) b (seen s.bound new.result) Done)
    c.self.view_is
    (admits_so (g.B.Bound.meaning s.bound) s.bound s.kept c.self.invariant c.args.rank c.args.numbers c.in_ok-row.row
    enters new.result new.ensures.counted new.ensures.table (sym c.first_miss.ensures ∙ c.in_default.is))

pub invariant_of-self : goal.invariant_of-self
invariant_of-self g c =
    let s = c.self.inside in
    let new = c.with_row-kept in
    let enters = (entering s.kept c.args.rank c.args.numbers c.in_ok-row.row _ _ c.frame.ensures.answered
    c.in_ok-row.ensures c.len-count.ensures.answered c.len-count.ensures.judged c.if-count-eq-MOST_ROWS.false
    c.in_ok-check_rank.ensures) in
    kept_with (g.B.Bound.meaning s.bound) s.bound s.kept c.self.invariant c.args.rank c.args.numbers c.in_ok-row.row
    enters new.result new.ensures.counted new.ensures.table (sym c.first_miss.ensures ∙ c.in_default.is)

pub returns-in-Some-clause-does : goal.returns-in-Some-clause-does
returns-in-Some-clause-does g c =
    let s = c.self.inside in
    let new = c.with_row-kept in
    let enters = (entering s.kept c.args.rank c.args.numbers c.in_ok-row.row _ _ c.frame.ensures.answered
    c.in_ok-row.ensures c.len-count.ensures.answered c.len-count.ensures.judged c.if-count-eq-MOST_ROWS.false
    c.in_ok-check_rank.ensures) in
    subst (λ b. Does (g.B.Bound.meaning b.bound) (Admit c.args.rank c.args.numbers) b b (Refused c.at-in-Some.result))
    c.self.view_is
    (subst (λ x. Does (g.B.Bound.meaning s.bound) (Admit c.args.rank c.args.numbers) (seen s.bound s.kept)
    (seen s.bound s.kept) (Refused x))
    (sym (c.at-in-Some.ensures ∙ ap (λ r. record { refusal = r; at = c.in-Some.place + 1 }) c.overload_of.ensures))
    (overloads_so
    (g.B.Bound.meaning s.bound) s.bound s.kept c.self.invariant c.args.rank c.args.numbers c.in_ok-row.row enters
    new.result new.ensures.counted new.ensures.table c.in-Some.place (sym c.first_miss.ensures ∙ c.in-Some.is)))

pub returns-clause-goes_on : goal.returns-clause-goes_on
returns-clause-goes_on g c = goes_on _ (returns-clause-does g c)

pub returns-in-Some-clause-goes_on : goal.returns-in-Some-clause-goes_on
returns-in-Some-clause-goes_on g c = goes_on _ (returns-in-Some-clause-does g c)

pub returns-in_err-row-clause-does : goal.returns-in_err-row-clause-does
returns-in_err-row-clause-does g c = search rules

pub returns-in_err-row-clause-goes_on : goal.returns-in_err-row-clause-goes_on
returns-in_err-row-clause-goes_on g c = goes_on _ (returns-in_err-row-clause-does g c)

pub returns-then-count-eq-MOST_ROWS-clause-does : goal.returns-then-count-eq-MOST_ROWS-clause-does
returns-then-count-eq-MOST_ROWS-clause-does g c = search rules

pub returns-then-count-eq-MOST_ROWS-clause-goes_on : goal.returns-then-count-eq-MOST_ROWS-clause-goes_on
returns-then-count-eq-MOST_ROWS-clause-goes_on g c = goes_on _ (returns-then-count-eq-MOST_ROWS-clause-does g c)

pub returns-in_err-check_rank-clause-does : goal.returns-in_err-check_rank-clause-does
returns-in_err-check_rank-clause-does g c = search rules

pub returns-in_err-check_rank-clause-goes_on : goal.returns-in_err-check_rank-clause-goes_on
returns-in_err-check_rank-clause-goes_on g c = goes_on _ (returns-in_err-check_rank-clause-does g c)

pub returns-in-Some-clause-overload : goal.returns-in-Some-clause-overload
returns-in-Some-clause-overload g c =
    overload_named (g.met.B.Bound.lawful c.args.self.now.bound)
    (seen_sound g.B.Bound.meaning c.self.inside.bound c.self.inside.kept c.args.self.now c.self.view_is
    c.len-count.ensures.judged c.self.invariant)
    (returns-in-Some-clause-does g c)
