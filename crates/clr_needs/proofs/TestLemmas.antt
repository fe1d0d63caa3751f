-- Searches of lists that rise, and tests that tell whether something is so.
use Rattle.std.proofs.Common.{◌≡◌, ℕ, zero, suc, ◌+◌, ◌<◌, ◌≤◌, ◌⊎◌, inl, inr, Bool, true, false, ◌||◌, List, [], ◌∷◌, Contains, get_or, length, refl, sym, ap}
use Rattle.std.proofs.Common.{◌∙◌, subst, arith, Result, Ok, Err, is_ok}
use Rattle.std.specs.Cmp.{IsTotalOrder, tied_itself}
use Rattle.std.specs.FinMap.{IsAntisymmetric}
use Rattle.std.specs.List.Sorted.{IsBinarySearchResult, IsSearchInRange, IsSortedBy, IsStrictlySortedBy}
use Rattle.std.specs.Ordering.{is_lt, ordering_reverse}
use Rattle.std.specs.declared.cmp.Ordering.{Ordering}
use Rattle.std.specs.declared.cmp.Ordering.TheVariants.{Less, Equal, Greater}
use Rattle.std.proofs.lemmas.Bool.{false≢true}
use Rattle.std.proofs.lemmas.List.Sorted.{searchable_from_sorted}
use Rattle.clr_needs.specs.Tests.{IsTestOf}

-- tests ------------------------------------------------------------------------------------------

pub told_by : (b : Bool) (P : Type 0) → (b ≡ true → P) → (P → b ≡ true) → IsTestOf b P
told_by true P from to = from refl
told_by false P from to = λ p. false≢true (to p)

pub told_as : (b : Bool) (P Q : Type 0) → (P → Q) → (Q → P) → IsTestOf b P → IsTestOf b Q
told_as true P Q from to told = from told
told_as false P Q from to told = λ q. told (to q)

pub either_told : (a b : Bool) (P Q : Type 0) → IsTestOf a P → IsTestOf b Q → IsTestOf (a || b) (P ⊎ Q)
either_told true b P Q p q = inl p
either_told false true P Q p q = inr q
either_told false false P Q p q = λ h. elim h [ inl x ↦ p x | inr y ↦ q y ]

pub it_is : (b : Bool) (P : Type 0) → b ≡ true → IsTestOf b P → P
it_is true P e told = told
it_is false P e told = absurd (false≢true e)

pub it_is_not : (b : Bool) (P : Type 0) → b ≡ false → IsTestOf b P → ¬ P
it_is_not true P e told = absurd (false≢true (sym e))
it_is_not false P e told = told

-- searches ---------------------------------------------------------------------------------------

module _ {K : Type 0} (cmp : K → K → Ordering) (total : IsTotalOrder cmp) (exact : IsAntisymmetric cmp) where
  falls : (x y : K) → cmp x y ≡ Less → is_lt (cmp y x) ≡ false
  falls x y e = ap is_lt (total.antisymm y x ∙ ap ordering_reverse e)

  sorted_suc : (xs : List K) → IsStrictlySortedBy cmp xs → (k : ℕ) (d : K) → suc k < length xs → is_lt (cmp (get_or xs (suc k) d) (get_or xs k d)) ≡ false
  unfolding IsStrictlySortedBy
  sorted_suc [] rises k d less = absurd (omega (arith, less))
  sorted_suc (x ∷ []) rises k d less = absurd (omega (arith, less))
  sorted_suc (x ∷ y ∷ ys) rises zero d less = falls x y rises.0.0
  sorted_suc (x ∷ y ∷ ys) rises (suc k) d less = sorted_suc (y ∷ ys) rises.1 k d (omega (arith, less))

  sorted_by : (xs : List K) → IsStrictlySortedBy cmp xs → IsSortedBy (λ x y. is_lt (cmp x y)) xs
  sorted_by xs rises k d from less =
      let next : k + 1 ≡ suc k = omega arith in
      subst (λ m. is_lt (cmp (get_or xs m d) (get_or xs k d)) ≡ false) (sym next) (sorted_suc xs rises k d (omega (arith, less)))

  ties : (x y : K) → x ≡ y → cmp x y ≡ Equal
  ties x y e = ap (cmp x) (sym e) ∙ tied_itself total x

  pub found_or_not : (xs : List K) (x : K) (r : Result ℕ ℕ) → IsStrictlySortedBy cmp xs → IsSearchInRange r (length xs)
      → IsBinarySearchResult (λ y. cmp y x) xs r → IsTestOf (is_ok r) (Contains xs x)
  found_or_not xs x (Ok k) rises within search = (k, within, exact (get_or xs k x) x (search x))
  found_or_not xs x (Err i) rises within search = λ h. not_there h
    where
      not_there : Contains xs x → ⊥
      not_there h =
          let split = search (searchable_from_sorted total (λ y. y) xs x (sorted_by xs rises)) in
          let tie = ties (get_or xs h.0 x) x h.2 in
          elim (side h.0) [
            | inl less ↦ (let lesser : Equal ≡ Less = sym tie ∙ split.0 h.0 x (omega arith) less in absurd (cc))
            | inr more ↦ (let greater : Equal ≡ Greater = sym tie ∙ split.1 h.0 x more h.1 in absurd (cc))
          ]
        where
          side : (k : ℕ) → (k < i) ⊎ (i ≤ k)
          side k = grind arith
