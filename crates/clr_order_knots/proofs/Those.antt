-- Members that pass a test, one number after another.
use Rattle.std.proofs.Common.{◌≡◌, ◌∙◌, ◌<◌, ◌+◌, ◌==◌, ℕ, zero, suc, Bool, true, false, List, [], ◌∷◌, ◌++◌, Some, inl, inr}
use Rattle.std.proofs.Common.{length-append, slice_get, refl, sym, ap, subst, arith}
use Rattle.std.proofs.lemmas.Bool.{cases_lt, false≢true, true≢false, or_cases, or_left}
use Rattle.std.proofs.lemmas.Bool.Decides.{Decides-eqb}
use Rattle.clr_order_search.specs.OpenNeeds.{has}
use Rattle.clr_order_search.proofs.Rests.{itself, same_of}
use Rattle.clr_order_knots.specs.Members.{AreThose}
use Rattle.clr_order_knots.proofs.Lists.{has_either, has_left, has_right, once_joined}

-- a list of one member
pub alone : (y x : ℕ) → has (y ∷ []) x ≡ true → y ≡ x
alone y x h = elim (or_cases (y == x) false h) [ inl same ↦ same_of y x same | inr none ↦ absurd (false≢true none) ]

pub once_alone : (y : ℕ) (j k m : ℕ) → slice_get (y ∷ []) j ≡ Some m → slice_get (y ∷ []) k ≡ Some m → j ≡ k
once_alone y zero zero m e f = refl
once_alone y zero (suc k) m e f = absurd (cc)
once_alone y (suc j) k m e f = absurd (cc)

module _ (test : ℕ → Bool) where
  pub none_yet : (list : List ℕ) → list ≡ [] → AreThose 0 test list
  none_yet list none = subst (AreThose 0 test) (sym none) (record {
    below = λ m h. absurd (false≢true h);
    such = λ m h. absurd (false≢true h);
    every = λ m less is. absurd (omega (arith, less));
    once = λ j k m e f. absurd (cc);
    short = omega arith;
  })

  pub one_such : (k : ℕ) (old new : List ℕ) → new ≡ old ++ k ∷ [] → test k ≡ true → AreThose k test old → AreThose (k + 1) test new
  one_such k old new put is are = subst (AreThose (k + 1) test) (sym put) (record {
    below = λ m h. elim (has_either old (k ∷ []) m h) [
      | inl before ↦ (let less = are.below m before in omega (arith, less))
      | inr last ↦ (let same = alone k m last in omega (arith, same))
    ];
    such = λ m h. elim (has_either old (k ∷ []) m h) [
      | inl before ↦ are.such m before
      | inr last ↦ subst (λ x. test x ≡ true) (alone k m last) is
    ];
    every = λ m less such. elim (cases_lt m k) [
      | inl before ↦ has_left old (k ∷ []) m (are.every m before such)
      | inr most ↦ (let same : k ≡ m = omega (arith, less, most) in has_right old (k ∷ []) m (or_left (k == m) false ((Decides-eqb k m).1 same)))
    ];
    once = once_joined old (k ∷ []) are.once (once_alone k) (λ m h last. (let less = are.below m h in let same = alone k m last in absurd (omega (arith, less, same))));
    short = (let short = are.short in let long = length-append old (k ∷ []) in omega (arith, short, long));
  })

  pub one_other : (k : ℕ) (old : List ℕ) → test k ≡ false → AreThose k test old → AreThose (k + 1) test old
  one_other k old isnt are = record {
    below = λ m h. (let less = are.below m h in omega (arith, less));
    such = are.such;
    every = λ m less such. elim (cases_lt m k) [
      | inl before ↦ are.every m before such
      | inr most ↦ (let same : k ≡ m = omega (arith, less, most) in absurd (true≢false (sym such ∙ ap test (sym same) ∙ isnt)))
    ];
    once = are.once;
    short = (let short = are.short in omega (arith, short));
  }
