-- Where an element of an ascending list stands beside another one.
use Rattle.std.proofs.Common.{◌≡◌, ◌∙◌, ◌<◌, ℕ, zero, suc, List, [], ◌∷◌, ◌⊎◌, inl, inr, Contains, get_or, length, take, sym, subst, arith}
use Rattle.std.specs.List.Sorted.{IsStrictlySortedBy}
use Rattle.std.specs.declared.cmp.Ordering.{Ordering}
use Rattle.std.specs.declared.cmp.Ordering.TheVariants.{Less}
use Rattle.clr_rules.proofs.Elements.{Among, among, contained, each_of}

module _ {X : Type 0} (cmp : X → X → Ordering) where
  -- before the position k, at it or after it
  pub data PlaceOf (xs : List X) (x : X) (k : ℕ) (y : X) : Type 0 where
    before : Contains (take k xs) x → PlaceOf xs x k y
    here : y ≡ x → PlaceOf xs x k y
    after : cmp y x ≡ Less → PlaceOf xs x k y

  -- where another element of the list stands beside the one at k
  at_place : (xs : List X) (k : ℕ) (y d x : X) → k < length xs → y ≡ get_or xs k d → IsStrictlySortedBy cmp xs → Among x xs → Among x (take k xs)
      ⊎ ((y ≡ x) ⊎ (cmp y x ≡ Less))
  unfolding IsStrictlySortedBy
  at_place [] k y d x less is ascending h = absurd h
  at_place (z ∷ xs) zero y d x less is ascending (inl e) = inr (inl (is ∙ e))
  at_place (z ∷ xs) zero y d x less is ascending (inr h) = inr (inr (subst (λ w. cmp w x ≡ Less) (sym is) (each_of (λ w. cmp z w ≡ Less) x xs ascending.0 h)))
  at_place (z ∷ xs) (suc k) y d x less is ascending (inl e) = inl (inl e)
  at_place (z ∷ xs) (suc k) y d x less is ascending (inr h) = by (at_place xs k y d x (omega (arith, less)) is ascending.1 h)
    where
      by : Among x (take k xs) ⊎ ((y ≡ x) ⊎ (cmp y x ≡ Less)) → Among x (z ∷ take k xs) ⊎ ((y ≡ x) ⊎ (cmp y x ≡ Less))
      by (inl g) = inl (inr g)
      by (inr g) = inr g

  pub place_of : (xs : List X) (k : ℕ) (y d x : X) → k < length xs → y ≡ get_or xs k d → IsStrictlySortedBy cmp xs → Contains xs x → PlaceOf xs x k y
  place_of xs k y d x less is ascending h = by (at_place xs k y d x less is ascending (among x xs h))
    where
      by : Among x (take k xs) ⊎ ((y ≡ x) ⊎ (cmp y x ≡ Less)) → PlaceOf xs x k y
      by (inl g) = before (contained x (take k xs) g)
      by (inr (inl e)) = here e
      by (inr (inr e)) = after e
