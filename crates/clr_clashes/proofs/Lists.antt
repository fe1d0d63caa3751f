-- Ascending lists of which one is within the other.
use Rattle.std.proofs.Common.{◌≡◌, ◌∙◌, ◌<◌, ◌⊎◌, ℕ, List, [], ◌∷◌, inl, inr, length, refl, sym, ap, subst, arith}
use Rattle.std.specs.List.Sorted.{IsStrictlySortedBy}
use Rattle.std.specs.Ordering.{nat_cmp}
use Rattle.std.specs.declared.cmp.Ordering.TheVariants.{Less}
use Rattle.std.proofs.lemmas.Cmp.{nat_cmp_total}
use Rattle.clr_rules.proofs.Elements.{Among, each_of, not_both, not_itself}

-- an ascending list within another one is shorter, or the same
pub shorter_or_same : (xs ys : List ℕ) → IsStrictlySortedBy nat_cmp xs → IsStrictlySortedBy nat_cmp ys → ((k : ℕ) → Among k ys → Among k xs)
    → (length ys < length xs) ⊎ (ys ≡ xs)
unfolding IsStrictlySortedBy
shorter_or_same [] [] p q within = inr refl
shorter_or_same [] (y ∷ ys) p q within = absurd (within y (inl refl))
shorter_or_same (x ∷ xs) [] p q within = inl (omega arith)
shorter_or_same (x ∷ xs) (y ∷ ys) p q within = by (within y (inl refl)) (shorter_or_same xs ys p.1 q.1) (shorter_or_same xs (y ∷ ys) p.1 q)
  where
    later : (k : ℕ) → ¬ (x ≡ k) → Among k (x ∷ xs) → Among k xs
    later k other (inl e) = absurd (other e)
    later k other (inr h) = h

    after : (k : ℕ) → Among k ys → nat_cmp y k ≡ Less
    after k h = each_of (λ z. nat_cmp y z ≡ Less) k ys q.0 h

    Rest : List ℕ → Type 0
    Rest zs = ((k : ℕ) → Among k zs → Among k xs) → (length zs < length xs) ⊎ (zs ≡ xs)

    by : (x ≡ y) ⊎ Among y xs → Rest ys → Rest (y ∷ ys) → (length (y ∷ ys) < length (x ∷ xs)) ⊎ (y ∷ ys ≡ x ∷ xs)
    by (inl e) rest whole = elim (rest (λ k h. later k (λ f. not_itself nat_cmp_total y (subst (λ z. nat_cmp y z ≡ Less) (sym f ∙ e) (after k h)))
        (within k (inr h)))) [
          | inl less ↦ inl (omega (arith, less))
          | inr same ↦ inr (λ i. sym e i ∷ same i)
        ]
    by (inr there) rest whole = elim (whole (λ k h. later k (differs there k h) (within k h))) [
      | inl less ↦ inl (omega (arith, less))
      | inr same ↦ inl (let long = ap length same in omega (arith, long))
    ]
      where
        differs : Among y xs → (k : ℕ) → Among k (y ∷ ys) → ¬ (x ≡ k)
        differs there k (inl e) f = not_itself nat_cmp_total x (subst (λ z. nat_cmp x z ≡ Less) (e ∙ sym f) (each_of (λ z. nat_cmp x z ≡ Less) y xs p.0 there))
        differs there k (inr h) f = not_both nat_cmp_total x y (each_of (λ z. nat_cmp x z ≡ Less) y xs p.0 there) (subst (λ z. nat_cmp y z
            ≡ Less) (sym f) (after k h))
