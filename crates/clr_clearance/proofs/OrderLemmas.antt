-- Under a total order, of any two values that differ one stands before the other.
use Rattle.std.proofs.Common.{◌≡◌, ◌⊎◌, inl, inr, refl, ap, ◌∙◌}
use Rattle.std.specs.Cmp.{IsTotalOrder}
use Rattle.std.specs.FinMap.{IsAntisymmetric}
use Rattle.std.specs.Ordering.{ordering_reverse}
use Rattle.std.specs.declared.cmp.Ordering.{Ordering}
use Rattle.std.specs.declared.cmp.Ordering.TheVariants.{Less, Equal, Greater}

-- equal, or one before the other
pub in_order : {X : Type 0} {R : X → X → Ordering} → IsTotalOrder R → IsAntisymmetric R → (x y : X) → (x ≡ y) ⊎ ((R x y ≡ Less) ⊎ (R y x ≡ Less))
in_order {X} {R} total exact x y = by (R x y) refl
  where
    by : (o : Ordering) → R x y ≡ o → (x ≡ y) ⊎ ((R x y ≡ Less) ⊎ (R y x ≡ Less))
    by Less e = inr (inl e)
    by Equal e = inl (exact x y e)
    by Greater e = inr (inr (total.antisymm y x ∙ ap ordering_reverse e))
