-- What decides whether a newcomer that comes through the other checks is admitted: the misses with it in place.
use Rattle.std.proofs.Common.{◌≡◌, ℕ, suc, ◌+◌, ◌-◌, ◌≤◌, Bool, true, false, List, [], ◌∷◌, ◌++◌, length, take}
use Rattle.std.proofs.Common.{drop, Some, None, Option, refl, sym, ap, ap₂, ◌∙◌, subst, arith, position, if◌then◌else◌}
use Rattle.std.specs.List.{All, AllPass}
use Rattle.std.specs.Option.{option_map, unwrap_or}
use Rattle.std.proofs.lemmas.Bool.{eq-eqb, le-ltb, ne_eqb, not-false, not_from_true}
use Rattle.std.proofs.lemmas.List.{length-take-le}
use Rattle.std.proofs.lemmas.List.Elements.{All-weaker}
use Rattle.rows.specs.declared.refusals.Refusal.{Refusal}
use Rattle.rows.specs.declared.refusals.Refusal.TheVariants.{Overload, NewcomerOverload}
use Rattle.rows.specs.declared.tasks.Numbers.{Numbers}
use Rattle.rows.specs.declared.tasks.Row.{Row}
use Rattle.rows.specs.Answers.{Answer, gives, refuses, refuses_at, checked}
use Rattle.rows.specs.Books.{Book}
use Rattle.rows.specs.Found.{Found, is_met, is_miss}
use Rattle.rows.proofs.Checks.{first_passes, passes_on, places_pass, places_pass_on}
use Rattle.bounds.specs.Meaning.{Meaning}
use Rattle.findings.specs.Findings.{row_finding}
use Rattle.findings.specs.Tables.{findings_below, findings_of}
use Rattle.findings.proofs.Tables.{length_findings_below}
use Rattle.admission.specs.Books.{findings_with, miss_checks, misses_at, rank_with}
use Rattle.admission.specs.Books.{with_newcomer, without}
use Rattle.admission.specs.Promises.{by_first_miss, overload_of}
use Rattle.admission.specs.Replies.{Told, done}
use Rattle.admission.proofs.Entry.{Enters}
use Rattle.admission.proofs.Findings.{findings_append}
use Rattle.admission.proofs.Places.{all_with, all_without, at_there, position_after, position_here}
use Rattle.admission.proofs.Places.{position_next, without_there}

-- a refusal of a bench
abbrev refused : Refusal → ℕ → Answer Told
refused refusal at = refuses refusal at

-- a miss at the newcomer's own rank is told as its own
newcomer_told : (rank at : ℕ) → at ≡ rank
    → refused NewcomerOverload rank ≡ refused (overload_of rank at) at
newcomer_told rank at same = rw (eq-eqb at rank same) (ap (refuses NewcomerOverload) (sym same))

-- one of a row that stood before at a place from there on is told at its rank with the newcomer
standing_told : (rank place at : ℕ) → rank ≤ place + 1 → at ≡ place + 2
    → refused Overload (rank_with rank place) ≡ refused (overload_of rank at) at
standing_told rank place at below same =
    rw (ne_eqb at rank (λ e. omega (arith, e, below, same)), le-ltb (place + 1) rank below)
    (ap (refuses Overload) (sym same))

-- a newcomer that enters a book at a rank
module _ (m : Meaning) (b : Book) (rank : ℕ) (n : Numbers) (entry : Enters b rank n) where
  -- the rows above it, and those that stood from its rank on
  abbrev pub front : List Row
  front = take (rank - 1) b.rows

  abbrev pub back : List Row
  back = drop (rank - 1) b.rows

  -- what is found about the rows above it, about itself, and about those below it
  abbrev pub before : List Found
  before = findings_of m b.frame front

  abbrev pub its_own : Found
  its_own = row_finding m b.frame entry.row front

  abbrev pub after : List Found
  after = findings_below m b.frame (front ++ entry.row ∷ []) back

  -- the rows with it
  pub rows_part : with_newcomer rank n b.rows ≡ front ++ entry.row ∷ back
  rows_part = ap (λ new. front ++ (new ++ back)) entry.made

  -- the findings with it are these, one after the other
  pub parts : findings_with m b rank n ≡ before ++ its_own ∷ after
  parts = ap (findings_of m b.frame) rows_part ∙ findings_append m b.frame [] front (entry.row ∷ back)

  -- so many are those before it
  pub place : length before ≡ rank - 1
  place = length_findings_below m b.frame [] front ∙ length-take-le (rank - 1) b.rows (omega (arith, entry.high))

  -- whether it misses is told by its own finding
  pub own_miss : misses_at rank (findings_with m b rank n) ≡ is_miss its_own
  own_miss = ap (λ o. unwrap_or (option_map is_miss o) false)
      (at_there rank (findings_with m b rank n) before after its_own entry.low place parts)

  -- those of the rows that stood are the others
  pub standing : without rank (findings_with m b rank n) ≡ before ++ after
  standing = without_there rank (findings_with m b rank n) before after its_own entry.low place parts

  -- where no row misses with it, the checks of misses pass
  pub met_passes : AllPass is_met (findings_with m b rank n) → (y : Told)
      → checked (miss_checks m b rank n) y ≡ gives y
  met_passes met y =
      let Met : Found → Type 0 = λ f. is_met f ≡ true in
      let split = all_without Met before after its_own (subst (AllPass is_met) parts met) in
      let others = All-weaker Met (λ f. is_miss f ≡ false) (λ f. not_from_true (is_met f))
      (without rank (findings_with m b rank n)) (subst (AllPass is_met) (sym standing) split.1) in
      passes_on (misses_at rank (findings_with m b rank n)) NewcomerOverload rank _
      (own_miss ∙ not_from_true (is_met its_own) split.0)
      ∙ places_pass_on is_miss (rank_with rank) (without rank (findings_with m b rank n)) Overload (gives y) others

  -- and where they pass, no row misses
  pub passes_met : (x y : Told) → gives x ≡ checked (miss_checks m b rank n) y
      → AllPass is_met (findings_with m b rank n)
  passes_met x y given =
      let Met : Found → Type 0 = λ f. is_met f ≡ true in
      let fs = findings_with m b rank n in
      let own = first_passes (misses_at rank fs) NewcomerOverload rank x _ given in
      let others = All-weaker (λ f. is_miss f ≡ false) Met (λ f. not-false (is_met f)) (without rank fs)
      (places_pass is_miss (rank_with rank) (without rank fs) Overload x (gives y) own.1).0 in
      subst (AllPass is_met) (sym parts)
      (all_with Met before after its_own (not-false (is_met its_own) (sym own_miss ∙ own.0))
      (subst (AllPass is_met) standing others))

  -- the answer of the checks of misses, by whether the newcomer misses and by the first row that stood and does
  abbrev two : Bool → Option ℕ → Answer Told
  two own others =
      refuses_at NewcomerOverload (if own then Some rank else None)
      (refuses_at Overload (option_map (rank_with rank) others) (gives done))

  -- where the rows above it meet, none of them misses
  none_before : AllPass is_met before → All (λ f. is_miss f ≡ false) before
  none_before met =
      All-weaker (λ f. is_met f ≡ true) (λ f. is_miss f ≡ false) (λ f. not_from_true (is_met f)) before met

  -- so the first miss with it is its own or stands below it
  pub first_with : AllPass is_met before → position is_miss (findings_with m b rank n)
      ≡ option_map (λ i. length before + i) (position is_miss (its_own ∷ after))
  first_with met = ap (position is_miss) parts ∙ position_after is_miss before (its_own ∷ after) (none_before met)

  -- and decides
  pub decided : AllPass is_met before
      → checked (miss_checks m b rank n) done ≡ by_first_miss rank (position is_miss (findings_with m b rank n))
  decided met =
      ap₂ two own_miss (ap (position is_miss) standing ∙ position_after is_miss before after (none_before met))
      ∙ by (is_miss its_own) refl (position is_miss after) refl
      ∙ ap (by_first_miss rank) (sym (first_with met))
    where
      by : (own : Bool) → is_miss its_own ≡ own → (later : Option ℕ) → position is_miss after ≡ later
          → two own (option_map (λ i. length before + i) (position is_miss after))
          ≡ by_first_miss rank (option_map (λ i. length before + i) (position is_miss (its_own ∷ after)))
      by true miss later first =
          newcomer_told rank (length before + 0 + 1) (omega (arith, place, entry.low))
          ∙ ap (λ o. by_first_miss rank (option_map (λ i. length before + i) o))
          (sym (position_here is_miss its_own after miss))
      by false meets None first =
          ap (λ o. two false (option_map (λ i. length before + i) o)) first
          ∙ ap (λ o. by_first_miss rank (option_map (λ i. length before + i) o))
          (sym (position_next is_miss its_own after meets ∙ ap (option_map suc) first))
      by false meets (Some i) first =
          ap (λ o. two false (option_map (λ i. length before + i) o)) first
          ∙ standing_told rank (length before + i) (length before + suc i + 1) (omega (arith, place, entry.low))
          (omega arith)
          ∙ ap (λ o. by_first_miss rank (option_map (λ i. length before + i) o))
          (sym (position_next is_miss its_own after meets ∙ ap (option_map suc) first))
