-- What `least` finds and how `count` grows.
use Rattle.std.specs.Prelude.{◌≡◌, ℕ, zero, suc, ◌+◌, ◌-◌, ◌<◌, ◌≤◌, Bool, true, false, cond, Some, None, Option}
use Rattle.std.specs.Prelude.{MatchOption}
use Rattle.std.proofs.Common.{sym, refl, ap, ◌∙◌, subst, ⊎_elim, arith}
use Rattle.std.proofs.lemmas.Bool.{both_ways, cases_order}
use Rattle.bounds.specs.Instants.{least, count, IsFirst}

module _ (p : ℕ → Bool) where
  -- none of the n instants from s on has p
  abbrev NoneOf : ℕ → ℕ → Type 0
  NoneOf n s = (i : ℕ) → s ≤ i → i < s + n → p i ≡ false

  -- t is the first of the n instants from s on that has p
  abbrev FirstOf : ℕ → ℕ → ℕ → Type 0
  FirstOf n s t = (s ≤ t) × (t < s + n) × (p t ≡ true) × ((i : ℕ) → s ≤ i → i < t → p i ≡ false)

  -- what holds at s and from the next instant on
  from_next : (s i : ℕ) → p s ≡ false → (suc s ≤ i → p i ≡ false) → s ≤ i → p i ≡ false
  from_next s i here rest low =
      ⊎_elim (λ (e : s ≡ i). subst (λ j. p j ≡ false) e here)
      (λ o. rest (⊎_elim (λ l. l) (λ l. absurd (omega arith)) o)) (cases_order s i)

  -- where s has not p, what the later instants tell
  later : (n s : ℕ) (o : Option ℕ) → p s ≡ false → MatchOption o (NoneOf n (suc s)) (FirstOf n (suc s))
      → MatchOption o (NoneOf (suc n) s) (FirstOf (suc n) s)
  later n s None here none = λ i low high. from_next s i here (λ l. none i l (omega arith)) low
  later n s (Some t) here f = (omega arith, omega arith, f.2, λ i low high. from_next s i here (λ l. f.3 i l high) low)

  step : (n s : ℕ) (b : Bool) → p s ≡ b → MatchOption (least p n (suc s)) (NoneOf n (suc s)) (FirstOf n (suc s))
      → MatchOption (cond b (Some s) (least p n (suc s))) (NoneOf (suc n) s) (FirstOf (suc n) s)
  step n s true here tells = (omega arith, omega arith, here, λ i low high. absurd (omega arith))
  step n s false here tells = later n s (least p n (suc s)) here tells

  least_tells : (n s : ℕ) → MatchOption (least p n s) (NoneOf n s) (FirstOf n s)
  unfolding least
  least_tells zero s = λ i low high. absurd (omega arith)
  least_tells (suc n) s = step n s (p s) refl (least_tells n (suc s))

  -- two first instants are one
  pub first_unique : {s e d t u : ℕ} → IsFirst p s e t → IsFirst p s d u → t ≡ u
  first_unique {t = t} {u = u} f g =
      ⊎_elim (λ e. e)
      (λ o. absurd (⊎_elim (λ l. both_ways (p t) (g.none t f.after l) f.holds)
      (λ l. both_ways (p u) (f.none u g.after l) g.holds) o))
      (cases_order t u)

  -- what `least` tells of the n instants after s
  pub least_after : (n s : ℕ)
      → MatchOption (least p n (s + 1)) ((i : ℕ) → s < i → i ≤ s + n → p i ≡ false) (IsFirst p s (s + n))
  least_after n s = read (least p n (s + 1)) (least_tells n (s + 1))
    where
      read : (o : Option ℕ) → MatchOption o (NoneOf n (s + 1)) (FirstOf n (s + 1))
          → MatchOption o ((i : ℕ) → s < i → i ≤ s + n → p i ≡ false) (IsFirst p s (s + n))
      read None none = λ i low high. none i (omega arith) (omega arith)
      read (Some t) f =
          record {
            after = omega arith;
            within = omega arith;
            holds = f.2;
            none =
                λ i low high. f.3 i (omega arith) high;
          }

  -- what the search for the least instant tells of those from 1 to n
  pub least_up_to : (n : ℕ) → MatchOption (least p n 1) ((i : ℕ) → 1 ≤ i → i ≤ n → p i ≡ false) (IsFirst p 0 n)
  least_up_to n =
      let all : 0 + n ≡ n = omega arith in
      subst (λ e. MatchOption (least p n 1) ((i : ℕ) → 1 ≤ i → i ≤ e → p i ≡ false) (IsFirst p 0 e)) all
      (least_after n 0)

  pub least_some : (n s e t : ℕ) → IsFirst p s e t → t ≤ s + n → least p n (s + 1) ≡ Some t
  least_some n s e t first within = read (least p n (s + 1)) (least_after n s)
    where
      read : (o : Option ℕ) → MatchOption o ((i : ℕ) → s < i → i ≤ s + n → p i ≡ false) (IsFirst p s (s + n))
          → o ≡ Some t
      read None none = absurd (both_ways (p t) (none t first.after within) first.holds)
      read (Some u) f = ap Some (first_unique f first)

  pub least_none : (n s : ℕ) → ((i : ℕ) → s < i → i ≤ s + n → p i ≡ false) → least p n (s + 1) ≡ None
  least_none n s none = read (least p n (s + 1)) (least_after n s)
    where
      read : (o : Option ℕ) → MatchOption o ((i : ℕ) → s < i → i ≤ s + n → p i ≡ false) (IsFirst p s (s + n)) → o ≡ None
      read None _ = refl
      read (Some u) f = absurd (both_ways (p u) (none u f.after f.within) f.holds)

  -- what is answered about the instants after s, up to e, where something is asked: the first, or none
  pub asked_some : (b : Bool) (s e d t : ℕ) → true ≡ b → IsFirst p s d t → t ≤ e
      → Some t ≡ cond b (least p (e - s) (s + 1)) None
  asked_some true s e d t _ first within = sym (least_some (e - s) s d t first (omega (arith, first.after)))
  asked_some false s e d t ask _ _ = absurd (both_ways true ask refl)

  pub asked_none : (b : Bool) (s e : ℕ) → true ≡ b → ((i : ℕ) → s < i → i ≤ e → p i ≡ false)
      → None ≡ cond b (least p (e - s) (s + 1)) None
  asked_none true s e _ none = sym (least_none (e - s) s (λ i low high. none i low (omega arith)))
  asked_none false s e ask _ = absurd (both_ways true ask refl)

  -- one instant more
  pub count_more : (n : ℕ) (b : Bool) → p (suc n) ≡ b → count p (suc n) ≡ count p n + cond b 1 0
  unfolding count
  count_more n b here = ap (λ t. count p n + cond t 1 0) here

  -- instants without p do not count
  pub count_same : (n s : ℕ) → ((i : ℕ) → s < i → i ≤ s + n → p i ≡ false) → count p (s + n) ≡ count p s
  count_same zero s none = ap (count p) (omega arith)
  count_same (suc n) s none =
      let e : s + suc n ≡ suc (s + n) = omega arith in
      let before = count_same n s (λ i low high. none i low (omega arith)) in
      let here = count_more (s + n) false (none (suc (s + n)) (omega arith) (omega arith)) in
      rw e (omega arith)

  -- up to the first instant after s there is one more
  pub count_first : (s e t : ℕ) → IsFirst p s e t → count p t ≡ count p s + 1
  count_first s e t first =
      let last : suc (s + (t - suc s)) ≡ t = omega (arith, first.after) in
      let before = count_same (t - suc s) s (λ i low high. first.none i low (omega (arith, first.after))) in
      let here = count_more (s + (t - suc s)) true (ap p last ∙ first.holds) in
      sym (ap (count p) last) ∙ omega arith

  pub count_le : (n : ℕ) → count p n ≤ n
  unfolding count
  count_le zero = omega arith
  count_le (suc n) = at (p (suc n)) (count_le n)
    where
      at : (b : Bool) → count p n ≤ n → count p n + cond b 1 0 ≤ suc n
      at true before = omega arith
      at false before = omega arith
