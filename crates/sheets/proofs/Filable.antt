-- What is found about a row can be filed.
use Rattle.std.proofs.Common.{◌≡◌, ℕ, zero, suc, ◌≤◌, true, false, not, eqb, leb, List, [], ◌∷◌, ◌++◌, map, drop}
use Rattle.std.proofs.Common.{get_or, Bool, Some, None, Option, sym, refl, ap, subst, arith}
use Rattle.std.specs.Prelude.{MatchOption}
use Rattle.std.specs.List.{All, AllPass}
use Rattle.std.proofs.lemmas.List.Elements.{All-append, All-cons, All-head, All-nil, All-tail}
use Rattle.std.proofs.lemmas.Bool.{and_from, and_parts, le-leb, eq-eqb, ne_eqb, not_from_true, or_from, or_left}
use Rattle.rows.specs.declared.frames.FrameNumbers.{FrameNumbers}
use Rattle.rows.specs.declared.tasks.Row.{Row}
use Rattle.rows.specs.Counting.{is_on_frame, window}
use Rattle.rows.specs.Times.{horizon, is_frame}
use Rattle.rows.specs.declared.verdicts.Finding.{Finding}
use Rattle.rows.specs.declared.verdicts.Verdict.{Verdict}
use Rattle.rows.specs.declared.verdicts.Verdict.TheVariants.{Meets, Misses}
use Rattle.rows.specs.Found.{Found, tells, verdict_rest}
use Rattle.bounds.specs.Instants.{count, IsFirst}
use Rattle.bounds.specs.Lemmas.Instants.{count_le, count_more}
use Rattle.bounds.specs.Meaning.{Meaning}
use Rattle.bounds.specs.Laws.{Laws}
use Rattle.findings.specs.Demand.{Load, load, is_rest}
use Rattle.findings.specs.Findings.{is_tested, is_resting_point, Says, row_finding}
use Rattle.findings.specs.Tables.{findings_below, findings_of}
use Rattle.findings.proofs.Walk.{finding_says}
use Rattle.leaves.specs.Judging.{is_in_range, IsFilable}

-- where an instant counts, some do
some_counted : (p : ℕ → Bool) (n : ℕ) → 1 ≤ n → p n ≡ true → 1 ≤ count p n
some_counted p zero low here = absurd (omega arith)
some_counted p (suc n) low here = omega (arith, count_more p n true here)

-- the points of a finding are at least one, and no more than the instants up to the last one
points_fit : (l : Load) (last : ℕ) (f : Found) → 1 ≤ last → Says l last f → (1 ≤ f.points) × (f.points ≤ last)
points_fit l last f low says = at f.rest says.points
  where
    at : (o : Option ℕ)
        → MatchOption o (f.points ≡ count (is_tested l last) last)
        (λ t. (s : ℕ) × IsFirst (is_resting_point l last) 0 last s × (f.points ≡ count (is_tested l last) s))
        → (1 ≤ f.points) × (f.points ≤ last)
    at None all =
        let tested : is_tested l last last ≡ true = or_left (eqb last last) _ (eq-eqb last last refl) in (
          omega (arith, all, some_counted (is_tested l last) last low tested),
          omega (arith, all, count_le (is_tested l last) last),
        )
    at (Some t) (s, first, counted) =
        let tested = (and_parts (is_tested l last s) (is_rest l s) first.holds).0 in (
          omega (arith, counted, first.after, some_counted (is_tested l last) s (omega (arith, first.after)) tested),
          omega (arith, counted, first.within, count_le (is_tested l last) s),
        )

-- what says what a finding says can be filed, where no instant past the horizon is asked about
says_filable : (l : Load) (last : ℕ) (f : Finding) → 1 ≤ last → last ≤ horizon → Says l last (tells f) → IsFilable f
says_filable l last f low near says =
    let fit = points_fit l last (tells f) low says in
    let some = ne_eqb f.points 0 (λ e. omega (arith, fit.0)) in
    record {
      good =
          or_from (eqb f.points 0) (not (is_in_range (verdict_rest f.verdict))) some
          (not_from_true _ (in_range f.verdict says.rest));
      fits = omega (arith, fit.1);
    }
  where
    in_range : (v : Verdict)
        → MatchOption (verdict_rest v) ((t : ℕ) → 1 ≤ t → t ≤ last → is_rest l t ≡ false) (IsFirst (is_rest l) 0 last)
        → is_in_range (verdict_rest v) ≡ true
    in_range Misses none = refl
    in_range (Meets t) first =
        and_from (leb 1 t) (leb t horizon) (le-leb 1 t (omega (arith, first.after)))
        (le-leb t horizon (omega (arith, first.within)))

module _ (m : Meaning) (h : FrameNumbers) (laws : Laws m) (frame : is_frame h.ticks ≡ true) where
  -- the findings of a table whose rows stand on its frame can be filed
  filable_below : (above rows : List Row) (fs : List Finding) → AllPass (is_on_frame h.ticks) above
      → AllPass (is_on_frame h.ticks) rows → map tells fs ≡ findings_below m h above rows → All IsFilable fs
  filable_below above rows [] on stand found = All-nil IsFilable
  filable_below above [] (f ∷ fs) on stand found = cc
  filable_below above (r ∷ rows) (f ∷ fs) on stand found =
      let here : tells f ≡ row_finding m h r above = ap (λ xs. get_or xs 0 (tells f)) found in
      let says = finding_says (load m h.ticks r.work above) (window r) laws (record { frame = frame; on = on }) r.busy
      (omega (arith, r.busy, r.roomy)) in
      let first = says_filable (load m h.ticks r.work above) (window r) f (omega (arith, r.busy, r.roomy))
      (omega (arith, r.timely, r.near)) (subst (Says (load m h.ticks r.work above) (window r)) (sym here) says) in
      let one = All-cons (λ s. is_on_frame h.ticks s ≡ true) r []
      (All-head (λ s. is_on_frame h.ticks s ≡ true) r rows stand) (All-nil (λ s. is_on_frame h.ticks s ≡ true)) in
      All-cons IsFilable f fs first
      (filable_below (above ++ r ∷ []) rows fs
      (All-append (λ s. is_on_frame h.ticks s ≡ true) above (r ∷ []) on one)
      (All-tail (λ s. is_on_frame h.ticks s ≡ true) r rows stand) (ap (drop 1) found))

  pub all_filable : (rows : List Row) (fs : List Finding) → AllPass (is_on_frame h.ticks) rows
      → map tells fs ≡ findings_of m h rows → All IsFilable fs
  all_filable rows fs stand found = filable_below [] rows fs (All-nil (λ s. is_on_frame h.ticks s ≡ true)) stand found
