-- The checks of a table, in their order.
use Rattle.std.proofs.Common.{◌≡◌, ℕ, ◌+◌, ◌%◌, Result, true, not, eqb, List, [], ◌∷◌, ◌++◌, Some, None, Option, refl}
use Rattle.std.proofs.Common.{sym, ap, ◌∙◌}
use Rattle.std.specs.Prelude.{is_some}
use Rattle.std.specs.Option.{unwrap_or}
use Rattle.std.proofs.lemmas.Bool.{not_from_true}
use Rattle.std.proofs.lemmas.List.Sums.{AllPass-from_list_all}
use Rattle.rows.specs.declared.frames.FrameNumbers.{FrameNumbers}
use Rattle.rows.specs.declared.judging.Flaw.TheVariants.{Off}
use Rattle.rows.specs.declared.refusals.Fault.{Fault}
use Rattle.rows.specs.declared.refusals.Refusal.{Refusal}
use Rattle.rows.specs.declared.refusals.Refusal.TheVariants.{BadFrame, OffFrame}
use Rattle.rows.specs.declared.tasks.Numbers.{Numbers}
use Rattle.rows.specs.Answers.{Check, Passes, answer, checked, first_refusal, gives, refuses, refuses_at}
use Rattle.rows.specs.Books.{flawless_checks, judge_checks}
use Rattle.rows.specs.Frames.{frame_of}
use Rattle.rows.specs.Judging.{has_flaw, row_flaws}
use Rattle.rows.proofs.Checks.{given_is, gives_any, nothing_told, passed_first, passes_on, places_pass_on, refuses_any}
use Rattle.bounds.specs.declared.families.Family.{Family}
use Rattle.filings.specs.Frames.{common_frame, is_common}
use Rattle.filings.specs.Checks.{bound_checks, filing_checks, given_frame_checks, frame_for, period_check, table_checks}

-- checks that answer alike answer alike behind others
behind : {A : Type 0} (cs ds es : List Check) (z : A) → checked ds z ≡ checked es z
    → checked (cs ++ ds) z ≡ checked (cs ++ es) z
behind [] ds es z same = same
behind (c ∷ cs) ds es z same = ap (refuses_at c.refusal c.at) (behind cs ds es z same)

-- on the common frame a table is checked as it is with none given
pub framed_alike : {A : Type 0} (h : FrameNumbers) (table : List Numbers) (z : A) → is_common table h.ticks ≡ true
    → common_frame table ≡ Some h → checked (table_checks (Some h) table) z ≡ checked (table_checks None table) z
framed_alike h table z common is =
    let all = AllPass-from_list_all (λ n. eqb (h.ticks % n.period) 0) table common in
    let on = places_pass_on (has_flaw (Off h)) (λ i. i + 1) table OffFrame (gives z)
    (λ k d within. not_from_true _ (all k d within)) in
    let found = passes_on (not (is_some (common_frame table))) BadFrame 0 (gives z) (ap (λ o. not (is_some o)) is) in
    behind (flawless_checks row_flaws table) (period_check (Some h) table ∷ []) (period_check None table ∷ []) z
    (on ∙ sym found)

-- so the table on it is the one on the common frame
pub common_judged : {X : Type 0} (h : FrameNumbers) (table : List Numbers) (f : X → FrameNumbers × List Numbers)
    (r : Result X Fault) → is_common table h.ticks ≡ true → common_frame table ≡ Some h
    → answer f r ≡ checked (judge_checks h table) (h, table)
    → answer f r ≡ checked (table_checks None table) (frame_for None table, table)
common_judged h table f r common is answered =
    let frame : h ≡ frame_for None table = ap (λ o. unwrap_or o (frame_of 0)) (sym is) in
    answered
    ∙ framed_alike h table (h, table) common is
    ∙ ap (λ k. checked (table_checks None table) (k, table)) frame

-- checks that pass pass in part
first_part : (cs ds : List Check) → Passes (cs ++ ds) → Passes cs
first_part [] ds passes = refl
first_part (c ∷ cs) ds passes =
    let first = nothing_told c.refusal c.at tt (first_refusal (cs ++ ds)) passes in
    first_part cs ds first.1 ∙ sym (ap (λ o. refuses_at c.refusal o (first_refusal cs)) first.0)

last_part : (cs ds : List Check) → Passes (cs ++ ds) → Passes ds
last_part [] ds passes = passes
last_part (c ∷ cs) ds passes =
    last_part cs ds (nothing_told c.refusal c.at tt (first_refusal (cs ++ ds)) passes).1

-- once the frame that is given has passed, and the accuracies, the table is left
module _ (frame : Option FrameNumbers) (bounds : List (Family × ℕ)) (table : List Numbers) (given : Option FrameNumbers)
    (framed : gives given ≡ checked (given_frame_checks frame) frame) where
  pub table_left : {B C : Type 0} (x y : B) → gives x ≡ checked (bound_checks bounds) y → (z : C)
      → checked (table_checks given table) z ≡ checked (filing_checks frame bounds table) z
  table_left x y accurate z =
      ap (λ f. checked (table_checks f table) z) (given_is (given_frame_checks frame) given frame framed)
      ∙ passed_first (bound_checks bounds) (table_checks frame table) x y accurate z
      ∙ passed_first (given_frame_checks frame)
      (bound_checks bounds ++ table_checks frame table) given frame framed z

  module _ {B : Type 0} (x y : B) (accurate : gives x ≡ checked (bound_checks bounds) y) where
    -- what is refused of it is refused of all of it
    pub table_refused : {C D : Type 0} (n : Refusal) (at : ℕ) (s : C)
        → refuses n at ≡ checked (table_checks given table) s → (z : D)
        → refuses n at ≡ checked (filing_checks frame bounds table) z
    table_refused n at s refused z = refuses_any (table_checks given table) n at s refused z ∙ table_left x y accurate z

    -- and where nothing is, all is passed
    pub table_given : {C D : Type 0} (r s : C) → gives r ≡ checked (table_checks given table) s → (z : D)
        → gives z ≡ checked (filing_checks frame bounds table) z
    table_given r s passed z = gives_any (table_checks given table) r s passed z ∙ table_left x y accurate z

-- where all is passed, so are the bounds
pub bounds_passed : (frame : Option FrameNumbers) (bounds : List (Family × ℕ)) (table : List Numbers)
    → Passes (filing_checks frame bounds table) → Passes (bound_checks bounds)
bounds_passed frame bounds table passes =
    first_part (bound_checks bounds) (table_checks frame table)
    (last_part (given_frame_checks frame) (bound_checks bounds ++ table_checks frame table) passes)
