-- Flags that are set step by step, from the first instant on.
use Rattle.std.proofs.Common.{◌≡◌, ℕ, ◌+◌, ◌-◌, ◌<◌, ◌≤◌, Bool, true, false, ◌||◌, List, length, slice_index_or}
use Rattle.std.proofs.Common.{slice_set, inl, inr, ⊎_elim, ◌⊎◌, ◌≢◌, refl, sym, ◌∙◌, ap, subst, arith}
use Rattle.std.specs.Prelude.{◌&&◌, Some, None, Option, MatchOption, nat_le}
use Rattle.rows.specs.Times.{horizon}
use Rattle.std.proofs.lemmas.Bool.{cases_lt, cases_order, and_from, and_left, and_right, le-leb, lt-leb, leb-true}
use Rattle.std.proofs.lemmas.Bool.{and_parts}
use Rattle.std.proofs.lemmas.List.{length-set, get_or-set_other}
use Rattle.std.proofs.lemmas.Grind.{get_or-set_at}
use Rattle.rows.specs.declared.tasks.Row.{Row}
use Rattle.bounds.specs.Instants.{least, IsFirst}
use Rattle.bounds.specs.Meaning.{Meaning}
use Rattle.bounds.specs.Answering.{corner_after}
use Rattle.bounds.specs.Marks.{Marks, up_to}
use Rattle.bounds.specs.Lemmas.Instants.{least_some, least_none, least_after}

-- flags for the instants after s, set as far as an instant t, which is still to come: the flag of an earlier instant is
-- set where it was, or where the instant has p, and the others are as before
pub record Marked (p : ℕ → Bool) (s t : ℕ) (old new : List Bool) : Type 0 where
  pub size : length new ≡ length old
  pub done : (k : ℕ) → k < length old → s + 1 + k < t
      → slice_index_or new k false ≡ (slice_index_or old k false || p (s + 1 + k))
  pub rest : (k : ℕ) → k < length old → t ≤ s + 1 + k → slice_index_or new k false ≡ slice_index_or old k false

module _ {p : ℕ → Bool} where
  -- before any flag is set, they are set as far as the first instant
  pub marked_start : (s : ℕ) (flags : List Bool) → Marked p s (s + 1) flags flags
  marked_start s flags =
      record { size = refl; done = λ k small early. absurd (omega arith); rest = λ k small late. refl }

  -- instants without p have nothing to set
  pub marked_on : {s t : ℕ} {old new : List Bool} (u : ℕ) → Marked p s t old new
      → ((i : ℕ) → s < i → t ≤ i → i < u → p i ≡ false) → t ≤ u → Marked p s u old new
  marked_on {s} {t} {old} {new} u marked none order =
      record {
        size = marked.size;
        done = λ k small early. elim (cases_lt (s + 1 + k) t) [
          | inl before ↦ marked.done k small before
          | inr past ↦
              marked.rest k small past
              ∙ still (slice_index_or old k false) (p (s + 1 + k)) (none (s + 1 + k) (omega arith) past early)
        ];
        rest = λ k small late. marked.rest k small (omega arith);
      }
    where
      still : (a b : Bool) → b ≡ false → a ≡ (a || b)
      still true b _ = refl
      still false b e = sym e

  -- at an instant that has p its flag is set
  pub marked_set : {s t : ℕ} {old new : List Bool} (k : ℕ) → Marked p s t old new → p t ≡ true → s + 1 + k ≡ t
      → k < length old → Marked p s (t + 1) old (slice_set new k true)
  marked_set {s} {t} {old} {new} k marked here is small =
      record {
        size = length-set new k true ∙ marked.size;
        done = λ i low early. elim (cases_order i k) [
          | inl same ↦
              get_or-set_at new k i true false same (omega (arith, marked.size))
              ∙ sym (whole (slice_index_or old i false) (p (s + 1 + i)) (ap p (omega arith) ∙ here))
          | inr other ↦
              get_or-set_other new k i true false (apart i k other)
              ∙ marked.done i low (⊎_elim (λ l. omega arith) (λ l. omega arith) other)
        ];
        rest = λ i low late. get_or-set_other new k i true false (omega arith) ∙ marked.rest i low (omega arith);
      }
    where
      whole : (a b : Bool) → b ≡ true → (a || b) ≡ true
      whole true b _ = refl
      whole false b e = e

      apart : (i k : ℕ) → (i < k) ⊎ (k < i) → i ≢ k
      apart i k other = ⊎_elim (λ l. omega arith) (λ l. omega arith) other

  -- once they are set past the last instant, every flag is as it should be
  pub marked_all : {s t : ℕ} {old new : List Bool} → Marked p s t old new → s + length old < t → Marks p s old new
  marked_all marked past = record { size = marked.size; each = λ k small. marked.done k small (omega arith) }

-- p, of the instants up to a last one e
module _ (p : ℕ → Bool) (e : ℕ) where
  -- an instant up to the last one that has p
  pub up_to_holds : (t : ℕ) → t ≤ e → p t ≡ true → up_to e p t ≡ true
  up_to_holds t near here = and_from (nat_le t e) (p t) (le-leb t e near) here

  -- no instant past the last one
  pub up_to_past : (t : ℕ) → e < t → up_to e p t ≡ false
  up_to_past t far = and_left (nat_le t e) (p t) (lt-leb t e far)

  -- nor one that has not p
  pub up_to_not : (t : ℕ) → p t ≡ false → up_to e p t ≡ false
  up_to_not t none = and_right (nat_le t e) (p t) none

  -- where there is none of p between two instants, there is none up to the last one either
  pub up_to_first : {s d t : ℕ} → IsFirst p s d t → (i : ℕ) → s < i → i < t → up_to e p i ≡ false
  up_to_first first i low high = up_to_not i (first.none i low high)

  -- where there is none after s, there is none at all
  pub up_to_none : {s : ℕ} → ((i : ℕ) → s < i → i ≤ e → p i ≡ false) → (i : ℕ) → s < i → up_to e p i ≡ false
  up_to_none none i low = elim (cases_lt e i) [
    | inl far ↦ up_to_past i far
    | inr near ↦ up_to_not i (none i low near)
  ]

  -- flags set as far as an instant t past v are set as far as the first one after v
  pub marked_to : {s t v d : ℕ} {old new : List Bool} (u : ℕ) → Marked (up_to e p) s t old new → IsFirst p v d u → v < t
      → t ≤ u
      → Marked (up_to e p) s u old new
  marked_to u marked first past order =
      marked_on u marked (λ i from low high. up_to_first first i (omega arith) high) order

  -- flags set as far as v are as they should be, where there is no corner after v
  pub marked_last : {s t v : ℕ} {old new : List Bool} → Marked (up_to e p) s t old new
      → ((i : ℕ) → v < i → i ≤ e → p i ≡ false)
      → v < t → t ≤ s + length old + 1 → Marks (up_to e p) s old new
  marked_last {s} {old = old} marked none past order =
      marked_all (marked_on (s + length old + 1) marked (λ i from low high. up_to_none none i (omega arith)) order)
      (omega arith)

  -- the first instant after s is the least one past any instant u before it
  pub least_past : {s d t : ℕ} (u : ℕ) → IsFirst p s d t → s ≤ u → u < t → t ≤ e → Some t ≡ least p (e - u) (u + 1)
  least_past {s} {d} {t} u first from before near =
      let later : IsFirst p u e t = record {
        after = before;
        within = near;
        holds = first.holds;
        none = λ i low high. first.none i (omega arith) high;
      } in
      sym (least_some p (e - u) u e t later (omega arith))

  -- where there is none after s, there is none past any later instant u
  pub least_past_none : (s u : ℕ) → ((i : ℕ) → s < i → i ≤ e → p i ≡ false) → s ≤ u → None ≡ least p (e - u) (u + 1)
  least_past_none s u none from = sym (least_none p (e - u) u (λ i low high. none i (omega arith) (omega arith)))

-- no instant past u is up to e, where u is the later one
pub least_over : (p : ℕ → Bool) (e u : ℕ) → e ≤ u → None ≡ least p (e - u) (u + 1)
least_over p e u past = least_past_none p e u u (λ i low high. absurd (omega arith)) (omega arith)

-- where instants past u have p up to e just where they have q up to d, the least ones past u are the same
pub least_same : (p q : ℕ → Bool) (e d u : ℕ) → ((i : ℕ) → u < i → up_to e p i ≡ up_to d q i)
    → least p (e - u) (u + 1) ≡ least q (d - u) (u + 1)
least_same p q e d u same = read (least p (e - u) (u + 1)) (least_after p (e - u) u)
  where
    -- an instant past u up to d has q where it has p up to e
    agree : (i : ℕ) (b : Bool) → u < i → i ≤ d → up_to e p i ≡ b → q i ≡ b
    agree i b low near here = sym (ap (λ x. x && q i) (le-leb i d near)) ∙ sym (same i low) ∙ here

    read : (o : Option ℕ) → MatchOption o ((i : ℕ) → u < i → i ≤ u + (e - u) → p i ≡ false) (IsFirst p u (u + (e - u)))
        → o ≡ least q (d - u) (u + 1)
    read None none =
        let absent = up_to_none p e {s = u} (λ i low near. none i low (omega arith)) in
        least_past_none q d u u (λ i low near. agree i false low near (absent i low)) (omega arith)
    read (Some t) f =
        let here = up_to_holds p e t (omega (arith, f.after, f.within)) f.holds in
        let both = and_parts (nat_le t d) (q t) (sym (same t f.after) ∙ here) in
        let first : IsFirst q u d t = record {
          after = f.after;
          within = leb-true t d both.0;
          holds = both.1;
          none = λ i low high.
              agree i false low (omega (arith, leb-true t d both.0)) (up_to_not p e i (f.none i low high));
        } in
        least_past q d u first (omega arith) f.after first.within

module _ (m : Meaning) (r : Row) where
  -- what a next corner tells that is looked for after t, up to e: the first one, or that there is none
  abbrev CornerTells : ℕ → ℕ → Option ℕ → Type 0
  CornerTells t e o = MatchOption o ((i : ℕ) → t < i → i ≤ e → m.is_corner r i ≡ false) (IsFirst (m.is_corner r) t e)

  -- the answer tells it of every instant up to the horizon
  pub next_corner_tells : (t : ℕ) (o : Option ℕ) → o ≡ corner_after m r t → CornerTells t horizon o
  next_corner_tells t o answer =
      read o (subst (CornerTells t (t + (horizon - t))) (sym answer) (least_after (m.is_corner r) (horizon - t) t))
    where
      read : (o : Option ℕ) → CornerTells t (t + (horizon - t)) o → CornerTells t horizon o
      read None none = λ i low high. none i low (omega arith)
      read (Some u) f =
          record { after = f.after; within = omega (arith, f.after, f.within); holds = f.holds; none = f.none }
