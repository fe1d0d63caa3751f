-- The first element that passes a test, where elements are read one after another.
use Rattle.std.proofs.Common.{◌≡◌, ◌∙◌, ◌+◌, ◌<◌, ◌≤◌, ◌∷◌, [], ℕ, zero, suc, Bool, true, false, cond, List, Option, Some, None}
use Rattle.std.proofs.Common.{ap, arith, get_or, length, refl, sym, take}
use Rattle.std.specs.Prelude.{find}
use Rattle.std.specs.Option.{option_or}
use Rattle.std.proofs.lemmas.List.{take_more}
use Rattle.std.proofs.lemmas.List.Folds.{find-append}

module _ {X : Type 0} (p : X → Bool) where
  pub one_more_fails : (xs : List X) (k : ℕ) (d : X) → k < length xs → p (get_or xs k d) ≡ false → find p (take k xs) ≡ None → find p (take (k + 1) xs) ≡ None
  one_more_fails xs k d less fails none =
      ap (find p) (take_more xs k d less) ∙ find-append p (take k xs) (get_or xs k d ∷ [])
      ∙ ap (λ (o : Option X). option_or o (find p (get_or xs k d ∷ []))) none ∙ ap (λ b. cond b (Some (get_or xs k d)) None) fails

  pub first_passes : (xs : List X) (k : ℕ) (d : X) → k < length xs → p (get_or xs k d) ≡ true → find p (take k xs) ≡ None → find p xs ≡ Some (get_or xs k d)
  first_passes [] k d less passes none = absurd (omega (arith, less))
  first_passes (y ∷ ys) zero d less passes none = ap (λ b. cond b (Some y) (find p ys)) passes
  first_passes (y ∷ ys) (suc k) d less passes none = by (p y) refl (λ rest. first_passes ys k d (omega (arith, less)) passes rest)
    where
      by : (b : Bool) → p y ≡ b → (find p (take k ys) ≡ None → find p ys ≡ Some (get_or ys k d)) → find p (y ∷ ys) ≡ Some (get_or ys k d)
      by true e later = let one : Some y ≡ None = sym (ap (λ b. cond b (Some y) (find p (take k ys))) e) ∙ none in absurd (cc)
      by false e later =
          let rest = sym (ap (λ b. cond b (Some y) (find p (take k ys))) e) ∙ none in
          ap (λ b. cond b (Some y) (find p ys)) e ∙ later rest

  all_read : (xs : List X) (k : ℕ) → length xs ≤ k → take k xs ≡ xs
  all_read [] zero past = refl
  all_read [] (suc k) past = refl
  all_read (y ∷ ys) zero past = absurd (omega (arith, past))
  all_read (y ∷ ys) (suc k) past = ap (λ zs. y ∷ zs) (all_read ys k (omega (arith, past)))

  pub none_passes : (xs : List X) (k : ℕ) → length xs ≤ k → find p (take k xs) ≡ None → find p xs ≡ None
  none_passes xs k past none = ap (find p) (sym (all_read xs k past)) ∙ none
