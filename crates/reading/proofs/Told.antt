-- What the bodies of entries tell.
use Rattle.std.proofs.Common.{◌≡◌, ℕ, List, [], map, Some, None, Option, Ok, Err, Result, sym, refl, ap, ◌∙◌}
use Rattle.std.proofs.Common.{subst, Bor}
use Rattle.std.specs.Option.{option_map, IfSome}
use Rattle.std.specs.Result.{result_ok}
use Rattle.std.specs.List.{All}
use Rattle.rows.specs.declared.refusals.Fault.{Fault}
use Rattle.rows.specs.declared.tasks.Numbers.{Numbers}
use Rattle.rows.specs.declared.tasks.Row.{Row}
use Rattle.rows.specs.Answers.{answer, checked, first_refusal}
use Rattle.rows.specs.Judging.{plain, row_flaws, flaw_checks}
use Rattle.rows.specs.Lists.{at_rank}
use Rattle.rows.proofs.Checks.{given_is, answered_once}
use Rattle.rows.specs.declared.verdicts.Finding.{Finding}
use Rattle.rows.specs.Found.{tells}
use Rattle.leaves.specs.declared.entries.Entry.{Entry}
use Rattle.leaves.specs.declared.entries.Entry.TheVariants.{Row as row}
use Rattle.leaves.specs.Entries.{finding_body}
use Rattle.leaves.specs.Fields.{row_fields, finding_fields, TellsBackwards}
use Rattle.leaves.specs.Judging.{IsFilable}
use Rattle.leaves.proofs.Fields.{row_again, finding_again, finding_backwards}
use Rattle.leaves.proofs.Filing.{numbers_pass}
use Rattle.reading.specs.Bodies.{body_of}
use Rattle.reading.proofs.Ranks.{at_rank_map, at_rank_has}

-- the body at a rank among entries is that of the entry of what has the rank
pub body_there : {X : Type 0} (entry : X → Entry) (body : Option (List ℕ)) (rank : ℕ) (xs : List X)
    → body ≡ option_map body_of (at_rank rank (map entry xs))
    → body ≡ option_map (λ x. body_of (entry x)) (at_rank rank xs)
body_there {X} entry body rank xs same =
    same ∙ ap (option_map body_of) (at_rank_map entry rank xs) ∙ of_one (at_rank rank xs)
  where
    of_one : (o : Option X) → option_map body_of (option_map entry o) ≡ option_map (λ x. body_of (entry x)) o
    of_one None = refl
    of_one (Some x) = refl

-- the fields of the bodies of entries tell what the entries hold
module _ {X A : Type 0} (body_for : X → List ℕ) (fields : List ℕ → A) (tell : X → A) (P : X → Type 0)
    (again : (x : X) → P x → fields (body_for x) ≡ tell x) where
  one_told : (o : Option X) → IfSome o P → option_map fields (option_map body_for o) ≡ option_map tell o
  one_told None good = refl
  one_told (Some x) good = ap Some (again x good)

  told : (body : Option (List ℕ)) (rank : ℕ) (xs : List X) → All P xs
      → body ≡ option_map body_for (at_rank rank xs) → option_map fields body ≡ option_map tell (at_rank rank xs)
  told body rank xs good same =
      ap (option_map fields) same ∙ one_told (at_rank rank xs) (at_rank_has P rank xs good)

-- the fields of the body of a row tell the row
pub row_told : (body : Option (List ℕ)) (rank : ℕ) (rs : List Row)
    → body ≡ option_map body_of (at_rank rank (map row rs))
    → option_map row_fields body ≡ option_map plain (at_rank rank rs)
row_told body rank rs same =
    told (λ r. body_of (row r)) row_fields plain (λ r. Unit {0}) (λ r good. row_again r []) body rank rs
    (λ k d within. tt) (body_there row body rank rs same)

-- the fields of the body of a finding that can be filed tell the finding
pub finding_told : (body : Option (List ℕ)) (rank : ℕ) (fs : List Finding) → All IsFilable fs
    → body ≡ option_map (λ f. finding_body (tells f)) (at_rank rank fs)
    → option_map (λ b. tells (finding_fields b)) body ≡ option_map tells (at_rank rank fs)
finding_told body rank fs good same =
    told (λ f. finding_body (tells f)) (λ b. tells (finding_fields b)) tells IsFilable
    (λ f filable. ap tells (finding_again f [] filable)) body rank fs good same

-- and the body tells it from its last field back
pub told_backwards : (o : Option (Bor (List ℕ))) (rank : ℕ) (fs : List Finding) (f : Finding) → All IsFilable fs
    → option_map (λ b. b.now) o ≡ option_map (λ g. finding_body (tells g)) (at_rank rank fs)
    → at_rank rank fs ≡ Some f → IfSome o (λ b. TellsBackwards b.now (tells f))
told_backwards None rank fs f good same is = tt
told_backwards (Some b) rank fs f good same is =
    let filable = subst (λ o. IfSome o IsFilable) is (at_rank_has IsFilable rank fs good) in
    let both : Some b.now ≡ Some (finding_body (tells f)) =
    same ∙ ap (option_map (λ g. finding_body (tells g))) is in
    let body : b.now ≡ finding_body (tells f) = cc in
    subst (λ xs. TellsBackwards xs (tells f)) (sym body) (finding_backwards f filable)

-- the numbers that a row told are judged to be that row
pub judged_again : (o : Option Row) (n : Numbers) (j : Result Row Fault) → Some n ≡ option_map plain o
    → answer plain j ≡ checked (flaw_checks row_flaws n 0) n → option_map plain (result_ok j) ≡ option_map plain o
judged_again None n j is answered = cc
judged_again (Some r) n (Ok s) is answered = ap Some (given_is (flaw_checks row_flaws n 0) (plain s) n answered) ∙ is
judged_again (Some r) n (Err e) is answered =
    let same : n ≡ plain r = cc in
    let passes = ap (λ m. first_refusal (flaw_checks row_flaws m 0)) same ∙ numbers_pass r 0 in
    absurd (answered_once (flaw_checks row_flaws n 0) tt tt e.refusal e.at n (sym passes) answered)
