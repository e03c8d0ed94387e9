-- What is left of a text behind its next record, a byte more at a time.
use Rattle.std.proofs.Common.{◌≡◌, ℕ, ◌+◌, ◌-◌, ◌<◌, ◌≤◌, true, false, List, [], ◌∷◌, inl, inr, drop, take, get_or}
use Rattle.std.proofs.Common.{length, refl, sym, ap, ◌∙◌, add-one, arith}
use Rattle.std.specs.Prelude.{if◌then◌else◌}
use Rattle.std.proofs.lemmas.Bool.{cases_Bool}
use Rattle.std.proofs.lemmas.List.{at_drop_all, at_drop_more, drop_all, length-drop, take_all}
use Rattle.csv.specs.Machine.{ends_at_end, field_after, fields_after, is_end, next_record, step}
use Rattle.csv.specs.declared.parser.Config.{Config}
use Rattle.csv.specs.declared.parser.State.{State}
use Rattle.csv.specs.declared.parser.State.TheVariants as st
use Rattle.task_tables.specs.Lines.{behind, behind_one, left_by}

-- what is left of a text behind the record in which its bytes stand
unfoldable pub rest_from : Config → State → List ℕ → List ℕ
rest_from cfg s [] = []
rest_from cfg s (c ∷ rest) = if is_end (step cfg s c).1 then rest else rest_from cfg (step cfg s c).0 rest

rest_is : (cfg : Config) (s : State) (fields : List (List ℕ)) (field xs : List ℕ)
    → left_by (next_record cfg s fields field xs) ≡ rest_from cfg s xs
unfolding next_record rest_from
rest_is cfg s fields field [] =
    elim (cases_Bool (ends_at_end s)) [
      | inl e ↦ rw e refl
      | inr e ↦ rw e refl
    ]
rest_is cfg s fields field (c ∷ rest) =
    elim (cases_Bool (is_end (step cfg s c).1)) [
      | inl e ↦ rw e refl
      | inr e ↦ rw e
          (rest_is cfg (step cfg s c).0 (fields_after (step cfg s c).1 fields field)
          (field_after (step cfg s c).1 c field) rest)
    ]

-- the bytes of a text, from the first
pub behind_is : (cfg : Config) (xs : List ℕ) → behind_one cfg xs ≡ rest_from cfg st.StartRecord xs
behind_is cfg xs = rest_is cfg st.StartRecord [] [] xs

-- a byte more, which ends the record or does not
pub rest_more : (cfg : Config) (s : State) (xs : List ℕ) (i d : ℕ) → i < length xs
    → rest_from cfg s (drop i xs)
    ≡ (if is_end (step cfg s (get_or xs i d)).1 then drop (i + 1) xs
    else rest_from cfg (step cfg s (get_or xs i d)).0 (drop (i + 1) xs))
unfolding rest_from
rest_more cfg s xs i d lt = at_drop_more (rest_from cfg s) xs i d lt

pub rest_all : (cfg : Config) (s : State) (xs : List ℕ) (i : ℕ) → length xs ≤ i → rest_from cfg s (drop i xs) ≡ []
unfolding rest_from
rest_all cfg s xs i le = at_drop_all (rest_from cfg s) xs i le

-- the byte that ends the record, and one that does not
pub ended_there : (cfg : Config) (s : State) (xs : List ℕ) (i d : ℕ) → i < length xs
    → behind_one cfg xs ≡ rest_from cfg s (drop i xs) → is_end (step cfg s (get_or xs i d)).1 ≡ true
    → take (length xs - (i + 1)) (drop (i + 1) xs) ≡ behind_one cfg xs
ended_there cfg s xs i d lt before e =
    let more : rest_from cfg s (drop i xs) ≡ drop (i + 1) xs = rest_more cfg s xs i d lt ∙ rw e refl in
    let size = length-drop (i + 1) xs in
    take_all (length xs - (i + 1)) (drop (i + 1) xs) (omega arith) ∙ sym (before ∙ more)

pub goes_on : (cfg : Config) (s next : State) (xs : List ℕ) (i d : ℕ) → i < length xs
    → behind_one cfg xs ≡ rest_from cfg s (drop i xs) → is_end (step cfg s (get_or xs i d)).1 ≡ false
    → next ≡ (step cfg s (get_or xs i d)).0 → behind_one cfg xs ≡ rest_from cfg next (drop (i + 1) xs)
goes_on cfg s next xs i d lt before e at_next =
    let more : rest_from cfg s (drop i xs) ≡ rest_from cfg (step cfg s (get_or xs i d)).0 (drop (i + 1) xs) =
    rest_more cfg s xs i d lt ∙ rw e refl in
    before ∙ more ∙ ap (λ z. rest_from cfg z (drop (i + 1) xs)) (sym at_next)

-- a text that ends with the record
pub ended_all : (cfg : Config) (s : State) (xs : List ℕ) (i : ℕ) → length xs ≤ i
    → behind_one cfg xs ≡ rest_from cfg s (drop i xs)
    → take (length xs - length xs) (drop (length xs) xs) ≡ behind_one cfg xs
ended_all cfg s xs i le before =
    let size = length-drop (length xs) xs in
    take_all (length xs - length xs) (drop (length xs) xs) (omega arith) ∙ drop_all (length xs) xs (omega arith)
    ∙ sym (before ∙ rest_all cfg s xs i le)

-- what is left behind one record more
pub behind_next : (cfg : Config) (text : List ℕ) (k : ℕ) → behind cfg text (k + 1) ≡ behind_one cfg (behind cfg text k)
unfolding behind
behind_next cfg text k = rw (add-one k) refl
