-- Numbers of which something holds, listed one after another.
use Rattle.std.proofs.Common.{◌≡◌, ◌<◌, ◌+◌, ◌⊎◌, ℕ, List, [], ◌∷◌, ◌++◌, inl, inr, Contains, sym, subst, arith}
use Rattle.std.specs.List.Sorted.{IsStrictlySortedBy}
use Rattle.std.specs.Ordering.{nat_cmp}
use Rattle.std.specs.declared.cmp.Ordering.TheVariants.{Less}
use Rattle.std.proofs.lemmas.Bool.{cases_lt}
use Rattle.std.proofs.lemmas.List.Elements.{Contains-append_cases, Contains-append_left, Contains-append_right}
use Rattle.clr_rules.proofs.AskLemmas.{less_number}
use Rattle.clr_rules.proofs.Elements.{Among, among, contained, rising_joined}
use Rattle.clr_needs.specs.Needs.{Lists}

module _ (P : ℕ → Type 0) where
  -- a position below a number
  pub record IsBelow (k x : ℕ) : Type 0 where
    pub below : x < k
    pub holds : P x

  abbrev pub AreListedTo : ℕ → List ℕ → Type 0
  AreListedTo k list = Lists nat_cmp (IsBelow k) list

  pub none_listed : (list : List ℕ) → list ≡ [] → AreListedTo 0 list
  unfolding IsStrictlySortedBy
  none_listed list none = subst (AreListedTo 0) (sym none)
      (record { ascending = tt; exactly = λ x. (λ h. absurd (among x [] h), λ w. let less = w.below in absurd (omega (arith, less))) })

  pub one_listed : (k : ℕ) (old new : List ℕ) → new ≡ old ++ k ∷ [] → P k → AreListedTo k old → AreListedTo (k + 1) new
  unfolding IsStrictlySortedBy
  one_listed k old new put holds before = subst (AreListedTo (k + 1)) (sym put) (record {
    ascending = rising_joined nat_cmp old (k ∷ []) before.ascending (tt, tt) (λ x y h j. below x y h j);
    exactly = λ x. (λ h. only x (Contains-append_cases old (k ∷ []) x h), every x);
  })
    where
      last : (x : ℕ) → Among x (k ∷ []) → k ≡ x
      last x (inl e) = e
      last x (inr h) = absurd h

      below : (x y : ℕ) → Among x old → Among y (k ∷ []) → nat_cmp x y ≡ Less
      below x y h j = less_number x y (let less = ((before.exactly x).0 (contained x old h)).below in let same = last y j in omega (arith, less, same))

      only : (x : ℕ) → Contains old x ⊎ Contains (k ∷ []) x → IsBelow (k + 1) x
      only x (inl h) = let w = (before.exactly x).0 h in record { below = (let less = w.below in omega (arith, less)); holds = w.holds }
      only x (inr h) = let same = last x (among x (k ∷ []) h) in record { below = omega (arith, same); holds = subst P same holds }

      every : (x : ℕ) → IsBelow (k + 1) x → Contains (old ++ k ∷ []) x
      every x w = elim (cases_lt x k) [
        | inl less ↦ Contains-append_left old (k ∷ []) x ((before.exactly x).1 (record { below = less; holds = w.holds }))
        | inr most ↦ (let less = w.below in let same : k ≡ x = omega (arith, less, most) in Contains-append_right old (k
            ∷ []) x (contained x (k ∷ []) (inl same)))
      ]

  pub one_left_out : (k : ℕ) (old : List ℕ) → ¬ (P k) → AreListedTo k old → AreListedTo (k + 1) old
  one_left_out k old fails before = record { ascending = before.ascending; exactly = λ x. (λ h. only x ((before.exactly x).0 h), every x) }
    where
      only : (x : ℕ) → IsBelow k x → IsBelow (k + 1) x
      only x w = record { below = (let less = w.below in omega (arith, less)); holds = w.holds }

      every : (x : ℕ) → IsBelow (k + 1) x → Contains old x
      every x w = elim (cases_lt x k) [
        | inl less ↦ (before.exactly x).1 (record { below = less; holds = w.holds })
        | inr most ↦ (let less = w.below in let same : x ≡ k = omega (arith, less, most) in absurd (fails (subst P same w.holds)))
      ]

  pub all_listed : (k : ℕ) (list : List ℕ) → ((x : ℕ) → P x → x < k) → AreListedTo k list → Lists nat_cmp P list
  all_listed k list within are = record {
    ascending = are.ascending;
    exactly = λ x. (
      λ h. ((are.exactly x).0 h).holds,
      λ p. (are.exactly x).1
          (record { below = within x p; holds = p }),
    );
  }
