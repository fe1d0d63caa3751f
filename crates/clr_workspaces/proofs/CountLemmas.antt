-- How many elements of a list pass a test.
use Rattle.std.proofs.Common.{◌≡◌, ℕ, suc, zero, ◌+◌, ◌<◌, Bool, true, false, cond, List, [], ◌∷◌, ◌++◌, length, filter, get_or, refl, ap, sym, ◌∙◌, arith}
use Rattle.std.proofs.Common.{slice_set, remove}
use Rattle.std.specs.Prelude.{count_by}
use Rattle.std.proofs.lemmas.List.Sums.{length-filter}

module _ {A : Type 0} (p : A → Bool) where
  abbrev pub tally : List A → ℕ
  tally [] = 0
  tally (x ∷ xs) = cond (p x) (suc (tally xs)) (tally xs)

  pub count-tally : (xs : List A) → count_by p xs ≡ tally xs
  count-tally xs = sym (length-filter p xs) ∙ by xs
    where
      by : (xs : List A) → length (filter p xs) ≡ tally xs
      by [] = refl
      by (x ∷ xs) = elim (p x) as (λ b. length (cond b (x ∷ filter p xs) (filter p xs)) ≡ cond b (suc (tally xs)) (tally xs)) [
        | true ↦ ap suc (by xs)
        | false ↦
            by xs
      ]

  pub tally-append : (xs ys : List A) → tally (xs ++ ys) ≡ tally xs + tally ys
  tally-append [] ys = omega arith
  tally-append (x ∷ xs) ys = by (p x) (tally-append xs ys)
    where
      by : (b : Bool) → tally (xs ++ ys) ≡ tally xs + tally ys → cond b (suc (tally (xs ++ ys))) (tally (xs ++ ys)) ≡ cond b (suc (tally xs)) (tally xs) + tally
          ys
      by true e = omega (arith, e)
      by false e = e

  pub count-append : (xs ys : List A) → count_by p (xs ++ ys) ≡ count_by p xs + count_by p ys
  count-append xs ys = count-tally (xs ++ ys) ∙ tally-append xs ys ∙ sym (λ i. count-tally xs i + count-tally ys i)

  pub count-last : (xs : List A) (x : A) → count_by p (xs ++ x ∷ []) ≡ count_by p xs + cond (p x) 1 0
  count-last xs x = count-append xs (x ∷ []) ∙ ap (λ n. count_by p xs + n) (count-tally (x ∷ []) ∙ by (p x))
    where
      by : (b : Bool) → cond b (suc 0) 0 ≡ cond b 1 0
      by true = refl
      by false = refl

  tally-set : (xs : List A) (at : ℕ) (y d : A) → p y ≡ p (get_or xs at d) → tally (slice_set xs at y) ≡ tally xs
  tally-set [] at y d e = refl
  tally-set (x ∷ xs) zero y d e = ap (λ b. cond b (suc (tally xs)) (tally xs)) e
  tally-set (x ∷ xs) (suc at) y d e = ap (λ n. cond (p x) (suc n) n) (tally-set xs at y d e)

  pub count-set : (xs : List A) (at : ℕ) (y d : A) → p y ≡ p (get_or xs at d) → count_by p (slice_set xs at y) ≡ count_by p xs
  count-set xs at y d e = count-tally (slice_set xs at y) ∙ tally-set xs at y d e ∙ sym (count-tally xs)

  tally-remove : (xs : List A) (at : ℕ) (d : A) → at < length xs → tally xs ≡ tally (remove xs at) + cond (p (get_or xs at d)) 1 0
  tally-remove [] at d lt = absurd (omega arith)
  tally-remove (x ∷ xs) zero d lt = by (p x)
    where
      by : (b : Bool) → cond b (suc (tally xs)) (tally xs) ≡ tally xs + cond b 1 0
      by true = omega arith
      by false = omega arith
  tally-remove (x ∷ xs) (suc at) d lt = by (p x) (p (get_or xs at d)) (tally-remove xs at d (omega arith))
    where
      by : (b c : Bool) → tally xs ≡ tally (remove xs at) + cond c 1 0 → cond b (suc (tally xs)) (tally xs) ≡ cond b (suc (tally (remove xs at)))
          (tally (remove xs at)) + cond c 1 0
      by true c e = omega (arith, e)
      by false c e = e

  pub count-remove : (xs : List A) (at : ℕ) (d : A) → at < length xs → count_by p xs ≡ count_by p (remove xs at) + cond (p (get_or xs at d)) 1 0
  count-remove xs at d lt = count-tally xs ∙ tally-remove xs at d lt ∙ ap (λ n. n + cond (p (get_or xs at d)) 1 0) (sym (count-tally (remove xs at)))

  -- what passes nothing counts nothing, and what passes one thing counts one
  pub tally-none : (xs : List A) (d : A) → ((i : ℕ) → i < length xs → p (get_or xs i d) ≡ false) → tally xs ≡ 0
  tally-none [] d none = refl
  tally-none (x ∷ xs) d none = ap (λ b. cond b (suc (tally xs)) (tally xs)) (none 0 (omega arith)) ∙ tally-none xs d (λ i lt. none (suc i) (omega arith))

  pub tally-one : (xs : List A) (d : A) (at : ℕ) → at < length xs → p (get_or xs at d) ≡ true → ((i : ℕ) → i < length xs → p (get_or xs i d) ≡ true → i ≡ at) →
      tally xs ≡ 1
  tally-one [] d at lt here only = absurd (omega arith)
  tally-one (x ∷ xs) d zero lt here only =
      ap (λ b. cond b (suc (tally xs)) (tally xs)) here
      ∙ ap suc (tally-none xs d (λ i i_lt. by (p (get_or xs i d)) (λ passes. let same = only (suc i) (omega arith) passes in absurd (omega (arith, same)))))
    where
      by : (b : Bool) → (b ≡ true → ⊥) → b ≡ false
      by true h = absurd (h refl)
      by false h = refl
  tally-one (x ∷ xs) d (suc at) lt here only =
      ap (λ b. cond b (suc (tally xs)) (tally xs)) (by (p x) (λ passes. let same = only 0 (omega arith) passes in absurd (omega (arith, same))))
      ∙ tally-one xs d at (omega arith) here (λ i i_lt passes. let same = only (suc i) (omega arith) passes in omega (arith, same))
    where
      by : (b : Bool) → (b ≡ true → ⊥) → b ≡ false
      by true h = absurd (h refl)
      by false h = refl
