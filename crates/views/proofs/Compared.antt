-- What is told of leaves that cannot be compared.
use Rattle.std.proofs.Common.{◌≡◌, ℕ, zero, suc, true, List, [], ◌∷◌, Err, Bor, slice_index_or, Some, None, Option}
use Rattle.std.proofs.Common.{refl, sym, ◌∙◌, subst, inl, inr}
use Rattle.rows.specs.declared.refusals.Fault.{Fault}
use Rattle.rows.specs.Answers.{Answer, gives, refuses}
use Rattle.leaves.specs.Contents.{Contents}
use Rattle.reading.specs.Leaves.{Reads}
use Rattle.reading.specs.Whole.{Fits}
use Rattle.streams.specs.Held.{MayHold}
use Rattle.views.specs.declared.damage.Damage.{Damage}
use Rattle.views.specs.declared.troubles.Trouble.{Trouble}
use Rattle.views.specs.declared.troubles.Trouble.TheVariants as trouble
use Rattle.views.specs.Leaves.{HeldBoth, HeldLeaf, name_among}
use Rattle.views.specs.Troubles.{IsDamaged, IsTroubleOf, TellsDamage, TellsDifference, of_leaf, of_leaves}

-- a name at a place is what stands there
pub name_at : (names : List (Bor (List ℕ))) (i : ℕ) (d : Bor (List ℕ)) → d.now ≡ []
    → (slice_index_or names i d).now ≡ name_among names i
name_at [] i d none = none
name_at (name ∷ names) zero d none = refl
name_at (name ∷ names) (suc i) d none = name_at names i d none

-- bytes that are read as no leaf are refused so
pub read_fault : (bytes : List ℕ) (fault : Fault) → ((a : Answer Contents) × Fits bytes a × Reads (Err fault) a)
    → Fits bytes (refuses fault.refusal fault.at)
read_fault bytes fault (gives c, fits, none) = absurd none
read_fault bytes fault (refuses n at, fits, is) =
    subst (λ m. Fits bytes (refuses m fault.at)) (sym is.0) (subst (λ p. Fits bytes (refuses n p)) (sym is.1) fits)

-- bytes that are read as no leaf are a damaged one
damage_is : (name bytes : List ℕ) (fault : Fault) (d : Damage) → Fits bytes (refuses fault.refusal fault.at)
    → TellsDamage name fault (trouble.Damaged d) → IsDamaged name (Some bytes) d
damage_is name bytes fault d fits told = record {
  named = told.0;
  bytes = bytes;
  all = refl;
  refused = subst (λ f. Fits bytes (refuses f.refusal f.at)) (sym told.1) fits;
}

-- the first of two
pub first_damaged : (a b one : List ℕ) (other : Option (List ℕ)) (fault : Fault) (t : Trouble)
    → Fits one (refuses fault.refusal fault.at) → TellsDamage a fault t → IsTroubleOf (of_leaves a (Some one) b other) t
first_damaged a b one other fault (trouble.Damaged d) fits told = inl (damage_is a one fault d fits told)
first_damaged a b one other fault (trouble.Memory e) fits told = tt
first_damaged a b one other fault (trouble.Table e) fits told = absurd told
first_damaged a b one other fault (trouble.Row m) fits told = absurd told
first_damaged a b one other fault trouble.Frame fits told = absurd told
first_damaged a b one other fault trouble.NoFrame fits told = absurd told
first_damaged a b one other fault (trouble.Accuracy family) fits told = absurd told
first_damaged a b one other fault (trouble.Rank n) fits told = absurd told
first_damaged a b one other fault (trouble.Different d) fits told = absurd told
first_damaged a b one other fault (trouble.Input e) fits told = absurd told
first_damaged a b one other fault (trouble.Output e) fits told = absurd told

-- or the second, where the first is a leaf
pub second_damaged : (a b : List ℕ) (one : Option (List ℕ)) (other : List ℕ) (fault : Fault) (t : Trouble)
    → HeldLeaf one true → Fits other (refuses fault.refusal fault.at) → TellsDamage b fault t
    → IsTroubleOf (of_leaves a one b (Some other)) t
second_damaged a b one other fault (trouble.Damaged d) leaf fits told = inr (leaf, damage_is b other fault d fits told)
second_damaged a b one other fault (trouble.Memory e) leaf fits told = tt
second_damaged a b one other fault (trouble.Table e) leaf fits told = absurd told
second_damaged a b one other fault (trouble.Row m) leaf fits told = absurd told
second_damaged a b one other fault trouble.Frame leaf fits told = absurd told
second_damaged a b one other fault trouble.NoFrame leaf fits told = absurd told
second_damaged a b one other fault (trouble.Accuracy family) leaf fits told = absurd told
second_damaged a b one other fault (trouble.Rank n) leaf fits told = absurd told
second_damaged a b one other fault (trouble.Different d) leaf fits told = absurd told
second_damaged a b one other fault (trouble.Input e) leaf fits told = absurd told
second_damaged a b one other fault (trouble.Output e) leaf fits told = absurd told

-- both are leaves, and differ
pub leaves_differ : (a b one other : List ℕ) (c d : Contents) (t : Trouble) → Fits one (gives c) → Fits other (gives d)
    → TellsDifference c d t → IsTroubleOf (of_leaves a (Some one) b (Some other)) t
leaves_differ a b one other c d (trouble.Different difference) fits fits_other told = record {
  one = one;
  other = other;
  all_one = refl;
  all_other = refl;
  contents_one = c;
  contents_other = d;
  fits_one = fits;
  fits_other = fits_other;
  related = told;
}
leaves_differ a b one other c d (trouble.Memory e) fits fits_other told = tt
leaves_differ a b one other c d (trouble.Table e) fits fits_other told = absurd told
leaves_differ a b one other c d (trouble.Row m) fits fits_other told = absurd told
leaves_differ a b one other c d trouble.Frame fits fits_other told = absurd told
leaves_differ a b one other c d trouble.NoFrame fits fits_other told = absurd told
leaves_differ a b one other c d (trouble.Accuracy family) fits fits_other told = absurd told
leaves_differ a b one other c d (trouble.Rank n) fits fits_other told = absurd told
leaves_differ a b one other c d (trouble.Damaged damage) fits fits_other told = absurd told
leaves_differ a b one other c d (trouble.Input e) fits fits_other told = absurd told
leaves_differ a b one other c d (trouble.Output e) fits fits_other told = absurd told

-- what is known of bytes that a reader may hold is known of what it held
may_hold : (held : Option (List ℕ)) (known bytes : List ℕ) → MayHold held known → bytes ≡ known → MayHold held bytes
may_hold None known bytes all same = tt
may_hold (Some xs) known bytes all same = same ∙ all

pub both_held : (P : Contents → Contents → Type 0) (h i : Option (List ℕ)) (one other : List ℕ) → MayHold h one
    → MayHold i other → HeldBoth P (Some one) (Some other) → HeldBoth P h i
both_held P h i one other all_one all_other both = record {
  one = both.one;
  other = both.other;
  all_one = may_hold h one both.one all_one both.all_one;
  all_other = may_hold i other both.other all_other both.all_other;
  contents_one = both.contents_one;
  contents_other = both.contents_other;
  fits_one = both.fits_one;
  fits_other = both.fits_other;
  related = both.related;
}

damage_held : (name : List ℕ) (h : Option (List ℕ)) (bytes : List ℕ) (d : Damage) → MayHold h bytes
    → IsDamaged name (Some bytes) d → IsDamaged name h d
damage_held name h bytes d all damage = record {
  named = damage.named;
  bytes = damage.bytes;
  all = may_hold h bytes damage.bytes all damage.all;
  refused = damage.refused;
}

leaf_held : (h : Option (List ℕ)) (bytes : List ℕ) → MayHold h bytes → HeldLeaf (Some bytes) true → HeldLeaf h true
leaf_held h bytes all leaf =
    record { bytes = leaf.bytes; all = may_hold h bytes leaf.bytes all leaf.all; leaf = leaf.leaf }

pub trouble_held : (a b : List ℕ) (h i : Option (List ℕ)) (one other : List ℕ) (t : Trouble) → MayHold h one
    → MayHold i other → IsTroubleOf (of_leaves a (Some one) b (Some other)) t → IsTroubleOf (of_leaves a h b i) t
trouble_held a b h i one other (trouble.Damaged d) all_one all_other (inl damage) =
    inl (damage_held a h one d all_one damage)
trouble_held a b h i one other (trouble.Damaged d) all_one all_other (inr damage) =
    inr (leaf_held h one all_one damage.0, damage_held b i other d all_other damage.1)
trouble_held a b h i one other (trouble.Different d) all_one all_other is =
    both_held _ h i one other all_one all_other is
trouble_held a b h i one other (trouble.Input e) all_one all_other is = is
trouble_held a b h i one other (trouble.Memory e) all_one all_other is = tt
trouble_held a b h i one other (trouble.Table e) all_one all_other is = absurd is
trouble_held a b h i one other (trouble.Row m) all_one all_other is = absurd is
trouble_held a b h i one other trouble.Frame all_one all_other is = absurd is
trouble_held a b h i one other trouble.NoFrame all_one all_other is = absurd is
trouble_held a b h i one other (trouble.Accuracy family) all_one all_other is = absurd is
trouble_held a b h i one other (trouble.Rank n) all_one all_other is = absurd is
trouble_held a b h i one other (trouble.Output e) all_one all_other is = absurd is

-- an input that fails is one of both
pub input_fails : (a b : List ℕ) (h i : Option (List ℕ)) (t : Trouble) → IsTroubleOf of_leaf t
    → IsTroubleOf (of_leaves a h b i) t
input_fails a b h i (trouble.Input e) is = is
input_fails a b h i (trouble.Memory e) is = tt
input_fails a b h i (trouble.Table e) is = absurd is
input_fails a b h i (trouble.Row m) is = absurd is
input_fails a b h i trouble.Frame is = absurd is
input_fails a b h i trouble.NoFrame is = absurd is
input_fails a b h i (trouble.Accuracy family) is = absurd is
input_fails a b h i (trouble.Rank n) is = absurd is
input_fails a b h i (trouble.Damaged d) is = absurd is
input_fails a b h i (trouble.Different d) is = absurd is
input_fails a b h i (trouble.Output e) is = absurd is
